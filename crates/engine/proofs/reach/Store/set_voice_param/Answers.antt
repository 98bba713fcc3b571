use Rattle.node.specs.declared.order.LastOrder.TheVariants.{Value}
use Rattle.model.specs.Call.{order}
use Rattle.engine.proofs.Calls.{next}
use Rattle.engine.proofs.reach.Store.set_voice_param.Goals as goal

pub invariant_of-self : goal.invariant_of-self
invariant_of-self c = next (order c.args.voice c.args.name.now (Value c.args.value)) c.self.invariant c.set_voice_param.ensures
