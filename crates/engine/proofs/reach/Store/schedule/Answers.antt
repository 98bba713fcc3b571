use Rattle.model.specs.Call.{schedule}
use Rattle.engine.proofs.Calls.{next}
use Rattle.engine.proofs.reach.Store.schedule.Goals as goal

pub invariant_of-self : goal.invariant_of-self
invariant_of-self c =
    next (schedule c.args.time c.args.voice c.args.name.now c.args.action) c.self.invariant c.schedule.ensures
