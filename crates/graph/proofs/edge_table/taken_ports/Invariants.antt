use Rattle.std.proofs.Common.{take}
use Rattle.graph.specs.Taken.{TakenBelow}
use Rattle.graph.proofs.edge_table.taken_ports.Given as goal

abbrev pub invariant-loop-e : goal.invariant-loop-e
invariant-loop-e l = TakenBelow 64 (take l.e-index l.edges) l.to l.taken
