use mathlib.Core.Path.{refl, sym, ◌∙◌}
use Rattle.words.proofs.Place.{counted}
use Rattle.voice_rows.specs.Rows.{voice_of}
use Rattle.voice_rows.proofs.table.voice_count.Goals as goal

pub returns : goal.returns
returns c = c.row_count.ensures ∙ sym (counted 143 voice_of c.args.voices.now c.args.count _ refl)
