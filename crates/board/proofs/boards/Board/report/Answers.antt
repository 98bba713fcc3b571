use Rattle.std.proofs.Common.{refl}
use Rattle.model.specs.Call.{report}
use Rattle.board.proofs.Seals.{store_more}
use Rattle.board.proofs.boards.Board.report.Goals as goal

pub invariant_of-self : goal.invariant_of-self
invariant_of-self g c = store_more _ (report c.args.node c.args.channels c.args.samples.now c.args.done) _ _ _ _ (λ s. refl) c.self.invariant c.report.ensures
