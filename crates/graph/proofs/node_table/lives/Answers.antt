use Rattle.std.proofs.Common.{◌∙◌, ap, is_some}
use Rattle.graph.specs.Node.{is_node}
use Rattle.lists.proofs.Lone.{some_row}
use Rattle.graph.proofs.node_table.lives.Goals as goal

pub returns : goal.returns
returns c = c.is_some.ensures ∙ ap is_some c.node_row.ensures ∙ some_row (is_node c.args.id) _
