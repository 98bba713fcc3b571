use Rattle.model.specs.Call.{prepare}
use Rattle.engine.proofs.Calls.{next}
use Rattle.engine.proofs.reach.Store.prepare.Goals as goal

pub invariant_of-self : goal.invariant_of-self
invariant_of-self c = next prepare c.self.invariant c.prepare.ensures
