use Rattle.std.proofs.Common.{◌≡◌, ◌+◌, ◌++◌, length, take}
use Rattle.graph.specs.Grown.{numbered}
use Rattle.graph.proofs.node_table.append_all.Given as goal

abbrev pub invariant-loop-n : goal.invariant-loop-n
invariant-loop-n l =
    (l.nodes.items ≡ l.fn.nodes.items ++ numbered l.fn.next (take l.n-index l.more))
    × (length l.nodes.items ≡ length l.fn.nodes.items + l.n-index) × (l.id ≡ l.fn.next + l.n-index)
