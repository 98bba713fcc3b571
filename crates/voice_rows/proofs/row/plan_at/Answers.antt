use Prim.Native.Nat.{◌%◌}
use mathlib.Core.Path.{ap, ◌∙◌}
use Rattle.voice_rows.proofs.Reading.{voice_row}
use Rattle.voice_rows.proofs.Records.{plan_same}
use Rattle.voice_rows.proofs.row.plan_at.Goals as goal

pub returns : goal.returns
returns c =
    let s = c.args in
    let v = voice_row s.t.now s.i in
    plan_same _ _ (c.records_at.ensures ∙ v.steps) (c.low_byte.ensures ∙ ap (λ x. x % 256) c.word_at.ensures ∙ v.last)
