-- `rank::Graph::queued` meets its contract: the walk from the state so far ends as the walk from the start, for the queue and, in it, for the arcs of one source.
use Prim.Native.Nat.{◌≤◌, ◌-◌}
use mathlib.Core.Path.{◌≡◌}
use lib.ListN.{drop}
use Rattle.rank.specs.Order.{arcs}
use Rattle.rank.specs.Parts.{order_rows, run, serve, find}
use Rattle.rank.proofs.Serve.{Held, st}
use Rattle.rank.proofs.Graph.queued.Given as goal

abbrev pub invariant-loop-e : goal.invariant-loop-e
invariant-loop-e l =
    Held l.self.n l.counts l.queue.rows l.queue.count × (l.initial.queue.count ≤ l.queue.count) × (find l.v (drop l.e (arcs l.self.from.now l.self.to.now)) l.e ≡ l.e)
    × (serve l.v (drop l.e (arcs l.self.from.now l.self.to.now)) (st l.self.n l.counts l.queue.rows l.queue.count) ≡ serve l.v (arcs l.self.from.now l.self.to.now) (st l.self.n l.initial.counts l.initial.queue.rows l.initial.queue.count))

abbrev pub decreases-loop-e : goal.decreases-loop-e
decreases-loop-e l = l.m - l.e

abbrev pub invariant-loop-head : goal.invariant-loop-head
invariant-loop-head l =
    (l.head ≤ l.queue.count) × Held l.self.n l.counts l.queue.rows l.queue.count × (run (l.self.n - l.head) (arcs l.self.from.now l.self.to.now) l.head (st l.self.n l.counts l.queue.rows l.queue.count) ≡ order_rows l.self.n (arcs l.self.from.now l.self.to.now))

abbrev pub decreases-loop-head : goal.decreases-loop-head
decreases-loop-head l = l.self.n - l.head
