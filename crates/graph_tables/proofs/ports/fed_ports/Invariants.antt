use lib.ListN.{take, drop}
use Rattle.graph_rows.specs.Edge.{edges_in}
use Rattle.graph_tables.specs.FedPorts.{FedPorts}
use Rattle.graph_tables.proofs.ports.fed_ports.Given as goal

abbrev pub invariant-loop-i : goal.invariant-loop-i
invariant-loop-i l = FedPorts l.fed (drop l.i (take l.n (edges_in l.edges))) l.node
