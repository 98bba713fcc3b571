use Rattle.model.specs.Call.{render}
use Rattle.engine.proofs.Calls.{next}
use Rattle.engine.proofs.reach.Store.render.Goals as goal

pub invariant_of-self : goal.invariant_of-self
invariant_of-self c = next (render c.args.out.now) c.self.invariant c.render.ensures
