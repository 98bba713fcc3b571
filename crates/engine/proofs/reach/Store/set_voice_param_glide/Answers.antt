use Rattle.node.specs.declared.order.LastOrder.TheVariants.{Glide}
use Rattle.model.specs.Call.{order}
use Rattle.engine.proofs.Calls.{next}
use Rattle.engine.proofs.reach.Store.set_voice_param_glide.Goals as goal

pub invariant_of-self : goal.invariant_of-self
invariant_of-self c = next (order c.args.voice c.args.name.now (Glide c.args.glide)) c.self.invariant c.set_voice_param_glide.ensures
