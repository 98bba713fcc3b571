use Prim.Native.Nat.{◌≤◌}
use native.Mathlib.Omega.{arith}
use lib.ListN.{length}
use lib.Seq.{take_all}
use Rattle.rank.specs.Order.{arcs}
use Rattle.rank.proofs.Laws.{length_arcs}
use Rattle.order_table.proofs.EdgeRows.ranking.Goals as goal

pub returns : goal.returns
returns c =
    let e = c.args.self.now in
    let es = arcs e.from.now e.to.now in
    let few : length es ≤ 1024 = omega (arith, e.few, length_arcs e.from.now e.to.now) in
    let r = rw (take_all 1024 es few) at c.ranked.ensures in
    record { long = r.sized.0; is = r.is; many = r.sized.1; all = r.all }
