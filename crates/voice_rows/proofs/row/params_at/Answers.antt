use mathlib.Core.Path.{◌∙◌}
use Rattle.voice_rows.proofs.Reading.{voice_row}
use Rattle.voice_rows.proofs.Records.{params_same}
use Rattle.voice_rows.proofs.row.params_at.Goals as goal

pub returns : goal.returns
returns c = let s = c.args in let v = voice_row s.t.now s.i in params_same _ _ (c.records_at.ensures ∙ v.rows) c.param_count_at.ensures
