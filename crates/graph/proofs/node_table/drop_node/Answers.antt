use Rattle.std.proofs.Common.{◌∙◌, sym, ap}
use Rattle.std.specs.List.{position}
use Rattle.graph.specs.Node.{is_node}
use Rattle.graph.specs.Sound.{id_of}
use Rattle.lists.proofs.Lone.{dropped, no_row, rest_all, lone_rising}
use Rattle.graph.proofs.node_table.drop_node.Goals as goal

pub returns-in-Some : goal.returns-in-Some
returns-in-Some c = c.remove.ensures.items ∙ dropped _ _ _ (lone_rising id_of c.args.id.0 0 _ c.requires) (sym c.in-Some.is ∙ c.node_row.ensures ∙ ap (position (is_node c.args.id)) c.as_slice.ensures.value)

pub returns-in_default : goal.returns-in_default
returns-in_default c = sym (rest_all _ _ (no_row (is_node c.args.id) _ (sym c.in_default.is ∙ c.node_row.ensures ∙ ap (position (is_node c.args.id)) c.as_slice.ensures.value)))
