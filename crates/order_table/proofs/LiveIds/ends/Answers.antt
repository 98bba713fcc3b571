use Prim.Native.Nat.{◌+◌, ◌≤◌}
use native.Mathlib.Omega.{arith}
use mathlib.Core.Path.{◌≡◌, sym, ap, ◌∙◌}
use mathlib.Core.List.{[], ◌∷◌}
use lib.ListN.{length, take, drop, length-set}
use borrow.Author.Rules.{rules}
use Rattle.lists.proofs.Table.{left_row}
use Rattle.words.proofs.Rows.{rows_long}
use Rattle.prepare.specs.Parts.{source_row, target_row}
use Rattle.prepare.proofs.Mapped.{map_next}
use Rattle.graph_rows.specs.Edge.{edge_of, edges_in}
use Rattle.order_table.proofs.LiveIds.ends.Goals as goal

pub loop-i-preserved : goal.loop-i-preserved
loop-i-preserved c =
    let l = c.loop-i in
    let m = c.args.m in
    let few : m ≤ 1024 = c.requires in
    let ids = c.args.self.now.rows.now in
    let es = edges_in c.args.edges.now in
    let x = c.edge_at-e in
    let words : length c.args.edges.now ≡ 3072 = search rules in
    let many : m ≤ length es = omega (arith, few, rows_long 3 edge_of c.args.edges.now) in
    let dr : drop l.i (take m es) ≡ x.result ∷ drop (l.i + 1) (take m es) =
    left_row (edge_of []) es m l.i c.loop-i-test.true many ∙ ap (λ y. y ∷ drop (l.i + 1) (take m es)) (sym x.ensures) in (
      length-set l.from l.i _ ∙ l.invariant.0,
      length-set l.to l.i _ ∙ l.invariant.1,
      map_next (source_row ids) l.from l.i (take m es) x.result _ (omega (arith, l.invariant.0, few)) dr c.row_of.ensures l.invariant.2,
      map_next (target_row ids) l.to l.i (take m es) x.result _ (omega (arith, l.invariant.1, few)) dr c.row_of-in-loop-i.ensures l.invariant.3,
    )
