use Rattle.std.proofs.Common.{◌≡◌, true, false, take, rules, tests}
use Rattle.std.proofs.lemmas.Iterator.{first_from_Range}
use Rattle.edges.specs.Wiring.{taken}
use Rattle.graph_rows.specs.Edge.{edges_in}
use Rattle.graph_tables.proofs.Lowest.{first_free}
use Rattle.graph_tables.proofs.ports.lowest_port.Goals as goal

pub returns : goal.returns
returns c =
    let s = c.args in
    let es = take s.count (edges_in s.edges.now) in
    let told = first_from_Range _ _ _ c.find.result (λ p. taken es s.node p ≡ false) (λ p. taken es s.node p ≡ true) c.find.ensures.ran (λ x p h. search (rules, tests)) (λ x p h. (search rules, search (rules, tests))) in
    first_free es s.node s.ports c.find.result told
