use Rattle.std.proofs.Common.{refl}
use Rattle.node.specs.declared.order.LastOrder.TheVariants as last
use Rattle.model.specs.Call.{order}
use Rattle.board.proofs.Seals.{store_more}
use Rattle.board.proofs.boards.Board.set_voice_param.Goals as goal

pub invariant_of-self : goal.invariant_of-self
invariant_of-self g c = store_more _ (order c.args.voice c.args.name.now (last.Value c.args.value)) _ _ _ _ (λ s. refl) c.self.invariant c.set_voice_param.ensures
