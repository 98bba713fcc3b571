use mathlib.Core.Path.{ap, ◌∙◌}
use mathlib.Core.List.{[]}
use lib.ListN.{get_or}
use Rattle.voice_rows.specs.Rows.{node}
use Rattle.wish_rows.specs.Rows.{wish_of, wishes_in}
use Rattle.wish_rows.proofs.Words.{wish_row}
use Rattle.wish_rows.proofs.Records.{wish_same}
use Rattle.wish_rows.proofs.row.wish_at.Goals as goal

pub returns : goal.returns
returns c =
    let s = c.args in
    let v = wish_row s.t.now s.i in
    wish_same _ (get_or (wishes_in s.t.now) s.i (wish_of [])) (c.flag_at.ensures ∙ v.managed) c.def_at.ensures (ap node c.word_at.ensures ∙ v.bus) (c.float_at.ensures ∙ v.pan) (c.word_at-2.ensures ∙ v.rank)
