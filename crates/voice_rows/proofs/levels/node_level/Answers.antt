use Rattle.std.proofs.Common.{◌≡◌, Some, sym, ap, ◌∙◌, option_map, rules, get_or, [], take}
use Rattle.graph.specs.Node.{is_node, node_at}
use Rattle.model.specs.Voice.{node_level}
use Rattle.words.proofs.FirstRow.{first_of, row_found}
use Rattle.graph_rows.specs.Node.{node_of, nodes_in}
use Rattle.voice_rows.proofs.levels.node_level.Goals as goal
use Rattle.voice_rows.proofs.levels.node_level.Goals.{After-first_row}

-- what the search over the rows found is the node of the id
found : (c : After-first_row) → option_map (λ i. get_or (nodes_in c.args.nodes.now) i (node_of [])) c.first_row.result ≡ node_at (take c.args.n (nodes_in c.args.nodes.now)) c.args.id
found c =
    let s = c.args in
    let q = is_node s.id in
    let r = c.first_row.result in
    row_found 22 node_of q s.nodes.now s.n r (first_of 22 node_of q s.nodes.now s.n r _ c.first_row.ensures (λ t i b h. search rules))

pub returns-in_err-row : goal.returns-in_err-row
returns-in_err-row c =
    let nodes = nodes_in c.args.nodes.now in
    c.from_residual.ensures
    ∙ ap (λ o. node_level (option_map (λ i. get_or nodes i (node_of [])) o)) (sym c.in_err-row.was)
    ∙ ap node_level (found (goal.at.returns-in_err-row c).After-first_row)

pub returns : goal.returns
returns c =
    let nodes = nodes_in c.args.nodes.now in
    ap Some c.level_at.ensures
    ∙ ap (λ o. node_level (option_map (λ i. get_or nodes i (node_of [])) o)) (sym c.in_ok-row.was)
    ∙ ap node_level (found (goal.at.returns c).After-first_row)
