-- The call that a wish is for: SPEC 17.
use Rattle.std.specs.Prelude.{ℕ, ◌≡◌, Bool, true, false, Float}
use Rattle.node.specs.declared.record.NodeId.{NodeId}
use Rattle.synthdef.specs.declared.def.SynthDef.{SynthDef}
use Rattle.store.specs.declared.wish.Wish.{Wish}
use Rattle.model.specs.Spawn.{Spawn}
use Rattle.model.specs.Wish.{wish_for}
use Rattle.model.specs.Call.{Call}
use Rattle.model.specs.Call as call

-- a spawn with each of the wish's arguments
pub record Asks (w : Wish) (x : Spawn) : Type 0 where
  pub def : x.def ≡ w.def
  pub bus : x.bus ≡ w.bus
  pub pan : x.pan ≡ w.pan
  pub rank : x.rank ≡ w.rank

-- and it is the managed one exactly if that was asked for
abbrev pub Makes : Wish → Call → Type 0
Makes w (call.spawn_managed x) = (w.managed ≡ true) × Asks w x
Makes w (call.spawn_loose x) = (w.managed ≡ false) × Asks w x
Makes w c = ⊥

-- a wish by its parts has each of them
pub record Holds (m : Bool) (b : NodeId) (p : Float) (r : ℕ) (d : SynthDef) (w : Wish) : Type 0 where
  pub managed : w.managed ≡ m
  pub bus : w.bus ≡ b
  pub pan : w.pan ≡ p
  pub rank : w.rank ≡ r
  pub def : w.def ≡ d

abbrev pub HoldsAll : Type 0
HoldsAll = (m : Bool) (b : NodeId) (p : Float) (r : ℕ) (d : SynthDef) → Holds m b p r d (wish_for m b p r d)
