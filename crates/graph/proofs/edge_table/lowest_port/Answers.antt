use Rattle.std.proofs.Common.{◌∙◌, ◌<◌, sym, arith}
use Rattle.edges.proofs.Search.{lowest_found, lowest_pass}
use Rattle.graph.proofs.edge_table.lowest_port.Goals as goal

pub ports-preserved : goal.ports-preserved
ports-preserved c =
    let left : c.ports.port < c.args.ports = omega (arith, c.ports.invariant.0, c.if-port-ports.false) in
    let small : c.ports.port < 64 = omega (arith, left, c.requires) in
    (omega arith, sym (lowest_pass _ _ _ _ left (sym (c.taken_ports-taken.ensures.1 _ small) ∙ c.if-taken-port.true)) ∙ c.ports.invariant.1)

pub returns-else-taken-port : goal.returns-else-taken-port
returns-else-taken-port c =
    let left : c.ports.port < c.args.ports = omega (arith, c.ports.invariant.0, c.if-port-ports.false) in
    let small : c.ports.port < 64 = omega (arith, left, c.requires) in
    sym (lowest_found _ _ _ _ left (sym (c.taken_ports-taken.ensures.1 _ small) ∙ c.if-taken-port.false)) ∙ c.ports.invariant.1
