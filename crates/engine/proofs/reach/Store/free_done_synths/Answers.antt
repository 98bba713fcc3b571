use Rattle.model.specs.Call.{clear}
use Rattle.engine.proofs.Calls.{next}
use Rattle.engine.proofs.reach.Store.free_done_synths.Goals as goal

pub invariant_of-self : goal.invariant_of-self
invariant_of-self c = next clear c.self.invariant c.free_done_synths.ensures
