use mathlib.Core.Path.{ap, ◌∙◌}
use Rattle.voice_rows.specs.Rows.{node}
use Rattle.voice_rows.proofs.Reading.{voice_row}
use Rattle.voice_rows.proofs.row.bus_at.Goals as goal

pub returns : goal.returns
returns c = let s = c.args in ap node c.word_at.ensures ∙ (voice_row s.t.now s.i).bus
