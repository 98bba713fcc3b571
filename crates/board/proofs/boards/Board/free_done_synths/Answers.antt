use Rattle.std.proofs.Common.{refl}
use Rattle.model.specs.Call.{clear}
use Rattle.board.proofs.Seals.{store_more}
use Rattle.board.proofs.boards.Board.free_done_synths.Goals as goal

pub invariant_of-self : goal.invariant_of-self
invariant_of-self g c = store_more _ (clear) _ _ _ _ (λ s. refl) c.self.invariant c.free_done_synths.ensures
