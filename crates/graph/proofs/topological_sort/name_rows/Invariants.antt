use Rattle.std.proofs.Common.{◌≡◌, take}
use Rattle.graph.specs.Sorts.{named}
use Rattle.graph.proofs.topological_sort.name_rows.Given as goal

abbrev pub invariant-loop-row : goal.invariant-loop-row
invariant-loop-row l = l.order.items ≡ named l.fn.nodes (take l.row-index l.row-items)
