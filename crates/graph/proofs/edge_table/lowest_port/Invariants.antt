use Rattle.std.proofs.Common.{◌≡◌, ◌≤◌, ◌-◌}
use Rattle.edges.specs.Ports.{lowest, free_port}
use Rattle.graph.proofs.edge_table.lowest_port.Given as goal

abbrev pub invariant-ports : goal.invariant-ports
invariant-ports l = (l.port ≤ l.ports) × (lowest (l.ports - l.port) l.edges l.fn.to l.port ≡ free_port l.edges l.fn.to l.ports)

abbrev pub decreases-ports : goal.decreases-ports
decreases-ports l = l.ports - l.port
