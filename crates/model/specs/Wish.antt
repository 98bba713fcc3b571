-- Either spawn with all its arguments (SPEC 9, 17): a keyboard's wish waits with it, a direct call makes it at once.
use Rattle.std.specs.Prelude.{ℕ, Bool, cond, Float}
use Rattle.node.specs.declared.record.NodeId.{NodeId}
use Rattle.synthdef.specs.declared.def.SynthDef.{SynthDef}
use Rattle.store.specs.declared.wish.Wish.{Wish}
use Rattle.model.specs.Spawn.{Spawn, spawn_of}
use Rattle.model.specs.Call.{Call}
use Rattle.model.specs.Call as call

-- a wish by its parts, the definition last
abbrev pub wish_for : Bool → NodeId → Float → ℕ → SynthDef → Wish
wish_for managed bus pan rank d = record { managed = managed; def = d; bus = bus; pan = pan; rank = rank }

-- the spawn's arguments, and the call that a wish is for
abbrev pub spawn_in : Wish → Spawn
spawn_in w = spawn_of w.def w.bus w.pan w.rank

abbrev pub call_of : Wish → Call
call_of w = cond w.managed (call.spawn_managed (spawn_in w)) (call.spawn_loose (spawn_in w))
