use Rattle.std.proofs.Common.{◌∙◌, sym}
use Rattle.model.specs.Call.{add_node}
use Rattle.board.proofs.Seals.{host_more}
use Rattle.board.proofs.boards.Board.add_node.Goals as goal

pub invariant_of-self : goal.invariant_of-self
invariant_of-self g c = host_more _ (add_node c.args.kind.now c.args.node.ports c.args.node.required c.args.node.takes_values c.args.node.takes_glides) _ _ _ _ (sym c.is_some.ensures ∙ c.if-is_some.false) c.self.invariant c.add_node.ensures
