use Rattle.std.proofs.Common.{◌∙◌, sym}
use Rattle.graph.specs.Node.{is_node}
use Rattle.lists.proofs.Lone.{find_row, no_row}
use Rattle.graph.proofs.node_table.node_of.Goals as goal

pub returns-in_err-at : goal.returns-in_err-at
returns-in_err-at c = c.from_residual.ensures ∙ sym (no_row (is_node c.args.id) _ (sym (c.in_err-at.was) ∙ c.node_row.ensures))

pub returns : goal.returns
returns c = sym (find_row (is_node c.args.id) _ _ _ (sym (c.in_ok-at.was) ∙ c.node_row.ensures))
