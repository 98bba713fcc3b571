use Rattle.model.specs.Wish.{call_of}
use Rattle.engine.proofs.Calls.{next}
use Rattle.engine.proofs.reach.Store.spawn_voice.Goals as goal

pub invariant_of-self : goal.invariant_of-self
invariant_of-self c = next (call_of c.args.wish.now) c.self.invariant c.spawn_voice.ensures
