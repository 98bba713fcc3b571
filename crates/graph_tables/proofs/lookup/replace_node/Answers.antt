use Prim.Native.Nat.{◌<◌}
use native.Mathlib.Omega.{arith}
use mathlib.Core.Path.{ap, ◌∙◌}
use mathlib.Core.Bool.{cond}
use mathlib.Core.List.{[]}
use borrow.Author.Rules.{rules}
use lib.ListN.{get_or, set}
use Rattle.words.proofs.Changes.{changed_rows, stored_where, fields_whole}
use Rattle.words.proofs.Rows.{put_is}
use Rattle.graph.specs.Node.{is_node}
use Rattle.graph_rows.specs.Node.{node_of, nodes_in}
use Rattle.graph_tables.proofs.lookup.replace_node.Goals as goal

pub returns : goal.returns
returns c =
    let s = c.args in
    let ws = c.node_words-ws in
    let some : 0 < 22 = omega arith in
    changed_rows 22 0 (λ l. l) node_of (λ x. cond (is_node s.n.id x) s.n x) s.nodes.now c.change_rows.new.t s.count _ c.change_rows.ensures
    (λ t i r h.
    let x = get_or (nodes_in t.now) i (node_of []) in
    let put = ap nodes_in (fields_whole 22 i ws.result t.now some ws.ensures.long) ∙ put_is 22 node_of t.now ws.result i ws.ensures.long ∙ ap (set (nodes_in t.now) i) ws.ensures.back in
    stored_where 22 0 (λ l. l) node_of t.now i s.n r ws.result (is_node s.n.id x) (search rules) put)
