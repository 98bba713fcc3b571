use Rattle.std.proofs.Common.{List, ◌≡◌, ◌≤◌, ◌-◌}
use Rattle.node.specs.declared.record.NodeId.{NodeId}
use Rattle.node.specs.declared.record.Edge.{Edge}
use Rattle.edges.specs.Ports.{lowest, free_port}
use Rattle.graph_tables.specs.FedPorts.{FedPorts}
use Rattle.graph_tables.proofs.ports.first_unfed.Given as goal

abbrev pub invariant-ports : goal.invariant-ports
invariant-ports l = (l.port ≤ l.ports) × ((es : List Edge) (n : NodeId) → FedPorts l.fed es n → lowest (l.ports - l.port) es n l.port ≡ free_port es n l.ports)

abbrev pub decreases-ports : goal.decreases-ports
decreases-ports l = l.ports - l.port
