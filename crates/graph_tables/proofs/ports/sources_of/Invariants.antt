use lib.ListN.{take, drop}
use Rattle.edges.proofs.Search.{Says}
use Rattle.graph_rows.specs.Edge.{edges_in}
use Rattle.graph_tables.proofs.ports.sources_of.Given as goal

abbrev pub invariant-loop-i : goal.invariant-loop-i
invariant-loop-i l = Says l.table (drop l.i (take l.n (edges_in l.edges))) l.node
