use Rattle.std.proofs.Common.{◌<◌, sym, ◌∙◌, arith}
use Rattle.edges.proofs.Search.{lowest_found, lowest_pass}
use Rattle.graph_tables.proofs.ports.first_unfed.Goals as goal

pub ports-preserved : goal.ports-preserved
ports-preserved c =
    let left : c.ports.port < c.args.ports = omega (arith, c.ports.invariant.0, c.if-port-ports.false) in
    let small : c.ports.port < 64 = omega (arith, left, c.requires) in
    (omega arith, λ es n e. sym (lowest_pass es n c.args.ports c.ports.port left (sym (e.are c.ports.port small) ∙ c.if-fed-port.true)) ∙ c.ports.invariant.1 es n e)

pub returns-else-fed-port : goal.returns-else-fed-port
returns-else-fed-port c =
    let left : c.ports.port < c.args.ports = omega (arith, c.ports.invariant.0, c.if-port-ports.false) in
    let small : c.ports.port < 64 = omega (arith, left, c.requires) in
    λ es n e. sym (lowest_found es n c.args.ports c.ports.port left (sym (e.are c.ports.port small) ∙ c.if-fed-port.false)) ∙ c.ports.invariant.1 es n e
