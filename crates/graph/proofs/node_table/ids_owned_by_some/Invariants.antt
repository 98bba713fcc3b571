use Rattle.std.proofs.Common.{◌≡◌, ◌≤◌, take, length}
use Rattle.graph.specs.Node.{owned_by_some}
use Rattle.graph.specs.Change.{ids_of}
use Rattle.graph.proofs.node_table.ids_owned_by_some.Given as goal

abbrev pub invariant-loop-n : goal.invariant-loop-n
invariant-loop-n l = (l.ids.items ≡ ids_of (owned_by_some l.voices) (take l.n-index l.nodes)) × (length l.ids.items ≤ l.n-index)
