use Rattle.std.proofs.Common.{◌∙◌, sym}
use Rattle.model.specs.Call.{connect}
use Rattle.board.proofs.Seals.{host_more}
use Rattle.board.proofs.boards.Board.connect.Goals as goal

pub invariant_of-self : goal.invariant_of-self
invariant_of-self g c = host_more _ (connect c.args.from c.args.to c.args.port) _ _ _ _ (sym c.is_some.ensures ∙ c.if-is_some.false) c.self.invariant c.connect.ensures
