use Rattle.std.proofs.Common.{◌∙◌, sym}
use Rattle.board.proofs.Seals.{board_wish_more}
use Rattle.board.proofs.boards.Board.wish.Goals as goal

pub invariant_of-self : goal.invariant_of-self
invariant_of-self g c = board_wish_more _ c.args.keyboard c.args.wish.now _ _ _ (sym c.shuts_spawn.ensures ∙ c.if-shuts_spawn.false) c.add.ensures.wishes c.self.invariant
