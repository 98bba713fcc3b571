use Rattle.model.specs.Call.{set_sink}
use Rattle.engine.proofs.Calls.{next}
use Rattle.engine.proofs.reach.Store.set_sink.Goals as goal

pub invariant_of-self : goal.invariant_of-self
invariant_of-self c = next (set_sink c.args.node) c.self.invariant c.set_sink.ensures
