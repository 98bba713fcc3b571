use Rattle.std.proofs.Common.{◌≡◌, ◌-◌}
use Rattle.model.specs.Model.{port_free}
use Rattle.engine.specs.Spawning.{reclaimed}
use Rattle.engine.proofs.Tables.make_room.Given as goal

abbrev pub invariant-loop : goal.invariant-loop
invariant-loop l = (reclaimed (l.fuel - l.counter) l.bus l.rank l.self ≡ reclaimed l.fuel l.bus l.rank l.initial.self) × (l.port ≡ port_free l.bus l.self)
