use Rattle.std.proofs.Common.{refl}
use Rattle.model.specs.Call.{render}
use Rattle.board.proofs.Seals.{store_more}
use Rattle.board.proofs.boards.Board.render.Goals as goal

pub invariant_of-self : goal.invariant_of-self
invariant_of-self g c = store_more _ (render c.args.out.now) _ _ _ _ (λ s. refl) c.self.invariant c.render.ensures
