use mathlib.Core.Path.{◌∙◌}
use Rattle.voice_rows.proofs.Reading.{voice_row}
use Rattle.voice_rows.proofs.row.param_count_at.Goals as goal

pub returns : goal.returns
returns c = let s = c.args in c.long_at.ensures ∙ (voice_row s.t.now s.i).held
