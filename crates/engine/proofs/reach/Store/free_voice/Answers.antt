use Rattle.model.specs.Call.{free}
use Rattle.engine.proofs.Calls.{next}
use Rattle.engine.proofs.reach.Store.free_voice.Goals as goal

pub invariant_of-self : goal.invariant_of-self
invariant_of-self c = next (free c.args.voice) c.self.invariant c.free_voice.ensures
