use Rattle.std.proofs.Common.{rules, ◌≤◌, length, take, not, ap, ◌∙◌, arith}
use lib.ListN.{length-take}
use Rattle.std.specs.List.{list_all}
use Rattle.words.proofs.Gaps.{found_stay, closed_rows}
use Rattle.edges.specs.Wiring.{ends_at}
use Rattle.graph_rows.specs.Edge.{edge_of, edges_in}
use Rattle.graph_tables.proofs.wiring.drop_port.Goals as goal

pub returns : goal.returns
returns c =
    let s = c.args in
    let q = ends_at s.node s.port in
    let l = take s.count (edges_in s.edges.now) in
    let few : length l ≤ s.count = omega (arith, length-take s.count (edges_in s.edges.now)) in
    let first = c.unwrap_or-first.result in
    let stay = ap (λ k. list_all (λ e. not (q e)) (take k l)) c.unwrap_or-first.ensures ∙ found_stay q l c.row_of.result s.count c.row_of.ensures few in
    closed_rows 3 edge_of (λ e. not (q e)) s.edges.now c.close_gaps.new.t c.close_gaps.result first s.count _ c.close_gaps.ensures (λ t i b h. search rules) stay
