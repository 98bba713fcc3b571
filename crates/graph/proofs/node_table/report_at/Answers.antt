use Rattle.std.proofs.Common.{◌∙◌, sym, ap}
use Rattle.std.specs.List.{position}
use Rattle.graph.specs.Node.{is_node}
use Rattle.node.specs.Node.{reported}
use Rattle.arrayvec.proofs.ArrayVecLemmas.{items-with_items}
use lib.ListN.{length-set}
use Rattle.graph.specs.Sound.{id_of}
use Rattle.lists.proofs.Lone.{no_row, lone_rising, changed_at, changed_none}
use Rattle.graph.proofs.node_table.report_at.Goals as goal

pub returns-in-Some : goal.returns-in-Some
returns-in-Some c =
    rw c.as_mut_slice.ensures.value
    (items-with_items c.args.nodes.now _ (length-set _ _ _)
    ∙ changed_at (is_node c.args.id) (reported c.args.level c.args.done) _ _ _ (lone_rising id_of c.args.id.0 0 _ c.requires) (sym c.in-Some.is ∙ c.node_row.ensures ∙ ap (position (is_node c.args.id)) c.as_slice.ensures.value))

pub returns-in_default : goal.returns-in_default
returns-in_default c = sym (changed_none (is_node c.args.id) _ _ (no_row (is_node c.args.id) _ (sym c.in_default.is ∙ c.node_row.ensures ∙ ap (position (is_node c.args.id)) c.as_slice.ensures.value)))
