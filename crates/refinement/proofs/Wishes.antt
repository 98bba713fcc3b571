-- The Rust's four spawns are wishes for one call: each function that gives such a wish gives one for the call that 01 names, in the middle with pan 0.
use mathlib.Core.Path.{◌≡◌, ap}
use Rattle.model.specs.Call as call
use Rattle.model.specs.Spawn.{spawn_of, middle}
use Rattle.model.specs.Wish.{call_of}
use Rattle.call_spawn.proofs.wish.voice_on_bus.Reads as fn-on-bus
use Rattle.call_spawn.proofs.wish.voice_on_bus_panned.Reads as fn-panned
use Rattle.call_spawn.proofs.wish.voice_on_bus_managed.Reads as fn-managed
use Rattle.call_spawn.proofs.wish.voice_on_bus_panned_managed.Reads as fn-panned-managed

pub on_bus_lem : (κs : _) (a : _) (r : _) (s : _) → fn-on-bus.Post κs a r s → call_of r ≡ call.spawn_loose (spawn_of a.0 a.1.0 middle a.1.1.0)
on_bus_lem κs a r s p = ap call_of p

pub panned : (κs : _) (a : _) (r : _) (s : _) → fn-panned.Post κs a r s → call_of r ≡ call.spawn_loose (spawn_of a.0 a.1.0 a.1.1.0 a.1.1.1.0)
panned κs a r s p = ap call_of p

pub managed : (κs : _) (a : _) (r : _) (s : _) → fn-managed.Post κs a r s → call_of r ≡ call.spawn_managed (spawn_of a.0 a.1.0 middle a.1.1.0)
managed κs a r s p = ap call_of p

pub panned_managed : (κs : _) (a : _) (r : _) (s : _) → fn-panned-managed.Post κs a r s → call_of r ≡ call.spawn_managed (spawn_of a.0 a.1.0 a.1.1.0 a.1.1.1.0)
panned_managed κs a r s p = ap call_of p
