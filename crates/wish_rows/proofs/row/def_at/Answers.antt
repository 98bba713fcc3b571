use Prim.Native.Nat.{◌%◌}
use mathlib.Core.Path.{sym, ap, ◌∙◌}
use mathlib.Core.List.{[]}
use lib.ListN.{get_or}
use Rattle.words.specs.Rows.{row_at}
use Rattle.voice_rows.proofs.Records.{params_same}
use Rattle.wish_rows.specs.Rows.{wish_of, wishes_in}
use Rattle.wish_rows.proofs.Words.{wish_row, one_each}
use Rattle.wish_rows.proofs.Records.{nodes_same, edges_same, def_same}
use Rattle.wish_rows.proofs.row.def_at.Goals as goal

pub returns : goal.returns
returns c =
    let s = c.args in
    let r = row_at 243 s.i s.t.now in
    let v = wish_row s.t.now s.i in
    def_same _ (get_or (wishes_in s.t.now) s.i (wish_of [])).def
    (nodes_same _ _ (c.records_at.ensures ∙ v.node_rows) (c.long_at.ensures ∙ v.nodes))
    (edges_same _ _ (c.records_at-2.ensures ∙ sym (one_each r) ∙ v.edge_rows) (c.long_at-2.ensures ∙ v.edges))
    (params_same _ _ (c.records_at-3.ensures ∙ v.param_rows) (c.long_at-3.ensures ∙ v.params))
    (c.low_byte.ensures ∙ ap (λ z. z % 256) c.word_at.ensures ∙ v.output)
