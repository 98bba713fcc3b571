use Rattle.std.proofs.Common.{take}
use Rattle.graph.specs.Taken.{FedBelow}
use Rattle.graph.proofs.edge_table.sources.Given as goal

abbrev pub invariant-loop-e : goal.invariant-loop-e
invariant-loop-e l = FedBelow 64 (take l.e-index l.edges) l.to l.fed
