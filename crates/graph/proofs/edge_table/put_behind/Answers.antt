use Rattle.std.proofs.Common.{rules, ◌≡◌, ◌+◌, ◌-◌, ◌≤◌, ◌∙◌, ap, arith, length, take, drop}
use Rattle.std.specs.Prelude.{option_map}
use Rattle.std.specs.List.{position}
use lib.ListN.{length-drop}
use lib.Seq.{take_all}
use Rattle.edges.specs.Wiring.{ends_at}
use Rattle.graph.proofs.Grown.{position_behind}
use Rattle.graph.proofs.edge_table.put_behind.Goals as goal

pub put_edge-requires-clause-found : goal.put_edge-requires-clause-found
put_edge-requires-clause-found c =
    let q = ends_at c.args.e.to c.args.e.port in
    let old = c.args.old in
    let es = c.as_slice.result.now in
    let mapped : c.map-row.result ≡ option_map (λ i. old + i) c.edge_row.result = search rules in
    let few : length (drop old es) ≤ length es - old = omega (arith, length-drop old es) in
    let rest : take (length es - old) (drop old es) ≡ drop old es = take_all (length es - old) (drop old es) few in
    mapped ∙ ap (option_map (λ i. old + i)) (c.edge_row.ensures ∙ ap (position q) (rest ∙ ap (drop old) c.as_slice.ensures.value))
    ∙ position_behind q old c.args.edges.now.items c.requires.fresh c.requires.inside
