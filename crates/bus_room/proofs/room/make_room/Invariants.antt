use Prim.Native.Nat.{◌-◌}
use mathlib.Core.Path.{◌≡◌}
use Rattle.model.specs.Model.{port_free}
use Rattle.memory.specs.View.{Memory, model_of}
use Rattle.memory.specs.Lent.{lent_spawn}
use Rattle.bus_room.specs.Reclaimed.{reclaimed}
use Rattle.bus_room.proofs.room.make_room.Given as goal

abbrev pub invariant-loop : goal.invariant-loop
invariant-loop l =
    ((m : Memory) → reclaimed (l.fuel - l.counter) l.bus l.rank (model_of (lent_spawn l.state l.nodes l.edges l.voices l.steals m)) ≡ reclaimed l.fuel l.bus l.rank (model_of (lent_spawn l.initial.state l.initial.nodes l.initial.edges l.initial.voices l.initial.steals m)))
    × ((m : Memory) → l.port ≡ port_free l.bus (model_of (lent_spawn l.state l.nodes l.edges l.voices l.steals m)))
