-- `synthdef::plan::done_plan` meets its contract: an array that is made by its places has at each place what the call there gave.
use Rattle.std.proofs.Common.{◌+◌, ◌-◌, [], false, ◌≡◌, ◌≤◌, ◌∙◌, ap, length, get_or, replicate, arith, rules, tests}
use lib.ListN.{length-append, length-replicate}
use Rattle.lists.proofs.FromFn.{made_is}
use Rattle.synthdef.specs.Tables.{edge_rows}
use Rattle.synthdef.specs.Edges.{counted}
use Rattle.synthdef.specs.Plan.{step, steps_from, full_steps}
use Rattle.synthdef.proofs.EdgeLaws.{counted_table}
use Rattle.synthdef.proofs.Answer.{length_steps}
use Rattle.synthdef.proofs.PlanRows.{full_row}
use Rattle.synthdef.proofs.plan.done_plan.Goals as goal

pub returns : goal.returns
returns c =
    let es = edge_rows c.counted_edges-es.result in
    let ns = c.as_slice-nodes.result.now in
    let l = steps_from es ns 0 in
    let long : length l ≡ length ns = length_steps es ns 0 in
    let few : length ns ≤ 24 = search rules in
    let is : c.from_fn.result ≡ full_steps l = made_is _ _ c.from_fn.result (full_steps l) (step false []) 24 (λ i x q h p.
    let there : x ≡ get_or l i (step false []) = search (rules, tests) in
    (search rules, there ∙ full_row l i)) (length-append l (replicate (24 - length l) (step false [])) ∙ ap (λ m. length l + m) (length-replicate (24 - length l) (step false [])) ∙ omega arith) c.from_fn.ensures.items in
    let counted-rows : es ≡ counted (edge_rows c.args.d.edges) = ap edge_rows c.counted_edges-es.ensures ∙ counted_table c.args.d.edges in
    ap (λ z. record { steps = z; output = c.args.d.output }) (
    is
    ∙ ap (λ z. full_steps (steps_from z ns 0)) counted-rows
    ∙ ap (λ z. full_steps (steps_from (counted (edge_rows c.args.d.edges)) z 0)) c.as_slice-nodes.ensures
    )
