use Rattle.model.specs.Call.{spawn_loose}
use Rattle.model.specs.Spawn.{spawn_of}
use Rattle.engine.proofs.Calls.{next}
use Rattle.engine.proofs.reach.Store.spawn_voice_on_bus_panned.Goals as goal

pub invariant_of-self : goal.invariant_of-self
invariant_of-self c = next (spawn_loose (spawn_of c.args.def.now c.args.bus c.args.pan c.args.rank)) c.self.invariant c.spawn_voice_on_bus_panned.ensures
