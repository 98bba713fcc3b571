use Rattle.model.specs.Call.{connect}
use Rattle.engine.proofs.Calls.{next}
use Rattle.engine.proofs.reach.Store.connect.Goals as goal

pub invariant_of-self : goal.invariant_of-self
invariant_of-self c = next (connect c.args.from c.args.to c.args.port) c.self.invariant c.connect.ensures
