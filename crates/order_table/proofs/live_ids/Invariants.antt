use Prim.Native.Nat.{◌≤◌}
use mathlib.Core.Path.{◌≡◌}
use lib.ListN.{length, take}
use Rattle.prepare.proofs.Rises.{Passed}
use Rattle.graph_rows.specs.Node.{nodes_in}
use Rattle.order_table.proofs.live_ids.Given as goal

abbrev pub invariant-loop-i : goal.invariant-loop-i
invariant-loop-i l = (length l.ids ≡ 512) × (l.least ≤ 4294967296) × Passed (take l.n (nodes_in l.nodes)) l.ids l.least l.i
