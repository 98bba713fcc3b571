use Rattle.std.proofs.Common.{◌∙◌}
use Rattle.graph.proofs.Sorting.{row_guessed, row_found}
use Rattle.graph.proofs.topological_sort.row_of.Goals as goal

pub returns-then-nodes-guess : goal.returns-then-nodes-guess
returns-then-nodes-guess c = row_guessed c.args.nodes.now c.requires c.args.id c.args.guess _ c.if-guess-nodes.true c.if-nodes-guess.true

pub returns : goal.returns
returns c = c.unwrap_or.ensures ∙ row_found c.args.nodes.now c.requires c.args.id c.node_row.result c.node_row.ensures
