use Rattle.model.specs.Call.{disconnect}
use Rattle.engine.proofs.Calls.{next}
use Rattle.engine.proofs.reach.Store.disconnect.Goals as goal

pub invariant_of-self : goal.invariant_of-self
invariant_of-self c = next (disconnect c.args.to c.args.port) c.self.invariant c.disconnect.ensures
