use Rattle.model.specs.Call.{report}
use Rattle.engine.proofs.Calls.{next}
use Rattle.engine.proofs.reach.Store.report.Goals as goal

pub invariant_of-self : goal.invariant_of-self
invariant_of-self c = next (report c.args.node c.args.channels c.args.samples.now c.args.done) c.self.invariant c.report.ensures
