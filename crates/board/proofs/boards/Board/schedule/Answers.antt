use Rattle.std.proofs.Common.{refl}
use Rattle.model.specs.Call.{schedule}
use Rattle.board.proofs.Seals.{store_more}
use Rattle.board.proofs.boards.Board.schedule.Goals as goal

pub invariant_of-self : goal.invariant_of-self
invariant_of-self g c = store_more _ (schedule c.args.time c.args.voice c.args.name.now c.args.action) _ _ _ _ (λ s. refl) c.self.invariant c.schedule.ensures
