use Rattle.board.proofs.Seals.{wish_more}
use Rattle.board.proofs.consoles.Console.wish.Goals as goal

pub invariant_of-self : goal.invariant_of-self
invariant_of-self g c = wish_more c.args.keyboard c.args.wish.now _ _ _ c.add.ensures.wishes c.self.invariant
