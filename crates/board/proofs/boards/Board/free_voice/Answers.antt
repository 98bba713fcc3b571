use Rattle.std.proofs.Common.{refl}
use Rattle.model.specs.Call.{free}
use Rattle.board.proofs.Seals.{store_more}
use Rattle.board.proofs.boards.Board.free_voice.Goals as goal

pub invariant_of-self : goal.invariant_of-self
invariant_of-self g c = store_more _ (free c.args.voice) _ _ _ _ (λ s. refl) c.self.invariant c.free_voice.ensures
