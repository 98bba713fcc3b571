use Rattle.std.proofs.Common.{◌∙◌, sym}
use Rattle.model.specs.Call.{set_sink}
use Rattle.board.proofs.Seals.{host_more}
use Rattle.board.proofs.boards.Board.set_sink.Goals as goal

pub invariant_of-self : goal.invariant_of-self
invariant_of-self g c = host_more _ (set_sink c.args.node) _ _ _ _ (sym c.is_some.ensures ∙ c.if-is_some.false) c.self.invariant c.set_sink.ensures
