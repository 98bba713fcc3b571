-- `book_bytes::write::put_book` meets its contract.
use Prim.Native.Nat.{◌*◌, min}
use native.Mathlib.Omega.{arith}
use mathlib.Core.Path.{◌≡◌, sym, ap, ◌∙◌}
use mathlib.Core.List.{map}
use lib.ListN.{length}
use Rattle.std.proofs.Common.{rules}
use Rattle.def_book.specs.Bytes.{heading_bytes, node_bytes, edge_bytes, param_bytes, joined}
use Rattle.def_book.proofs.Puts.{then, same_text, room_behind}
use Rattle.def_book.proofs.Writing.{Long, edge_count, param_count, nodes_long, edges_long, book_parts}
use Rattle.book_bytes.proofs.write.put_book.Goals as goal
use Rattle.book_bytes.proofs.write.put_book.Goals.{After-put_rows, After-put_rows-2, Start}

long : (c : Start) → Long c.args.d
long c = record {
  nodes = search rules;
  edges = search rules;
  params = search rules;
}

-- what each part took
nodes_took : (c : After-put_rows) → Long c.args.d → c.put_rows.result ≡ 27 * min c.args.d.nodes.count 24
nodes_took c w = c.put_rows.ensures.long ∙ ap (λ l. length (joined (map node_bytes l))) c.as_slice-nodes.ensures ∙ nodes_long c.args.d w

edges_took : (c : After-put_rows-2) → Long c.args.d → c.put_rows-2.result ≡ 7 * min c.args.d.edges.count 48
edges_took c w = c.put_rows-2.ensures.long ∙ ap (λ l. length (joined (map edge_bytes l))) c.as_slice.ensures ∙ edges_long c.args.d w

pub put_rows-requires-2 : goal.put_rows-requires-2
put_rows-requires-2 c =
    let d = c.args.d in
    let at = goal.at.put_rows-requires-2 c in
    let w = long at.Start in
    let n = nodes_took at.After-put_rows w in
    let many = ap length c.as_slice.ensures ∙ sym (edge_count d w) in
    simp room_behind (omega (arith, n, many, c.requires))

pub put_rows-requires-3 : goal.put_rows-requires-3
put_rows-requires-3 c =
    let d = c.args.d in
    let at = goal.at.put_rows-requires-3 c in
    let w = long at.Start in
    let n = nodes_took at.After-put_rows w in
    let e = edges_took at.After-put_rows-2 w in
    let many = ap length c.as_slice-2.ensures ∙ sym (param_count d w) in
    simp room_behind (omega (arith, n, e, many, c.requires))

pub returns : goal.returns
returns c =
    let d = c.args.d in
    let count = ap length c.as_slice-nodes.ensures in
    let head = same_text (ap (λ k. heading_bytes k d.output) count) c.put_heading-a.ensures in
    let nodes = same_text (ap (λ l. joined (map node_bytes l)) c.as_slice-nodes.ensures) c.put_rows.ensures in
    let edges = same_text (ap (λ l. joined (map edge_bytes l)) c.as_slice.ensures) c.put_rows-2.ensures in
    let params = same_text (ap (λ l. joined (map param_bytes l)) c.as_slice-2.ensures) c.put_rows-3.ensures in
    same_text (book_parts d) (then (then (then head nodes) edges) params)
