-- Examples of what is due (SPEC 8.4): events at 64 with deadline 64 are not taken, events at 63 are.
use Prim.Native.Nat.{ℕ}
use mathlib.Core.Path.{◌≡◌, refl}
use mathlib.Core.List.{List, [], ◌∷◌}
use mathlib.Core.Bool.{Bool, true, false, ◌&&◌, beq}
use Rattle.node.specs.declared.name.Name.{Name}
use Rattle.node.specs.declared.order.EventAction.{EventAction}
use Rattle.node.specs.declared.record.VoiceId.{VoiceId}
use Rattle.scheduler.specs.declared.event.Event.{Event}
use Rattle.scheduler.specs.Queue.{taken_before}

-- an event at a time, a deadline, and whether it is taken
pub record Row : Type 0 where
  pub time : ℕ
  pub deadline : ℕ
  pub taken : Bool

abbrev pub some? : List Event → Bool
some? [] = false
some? (e ∷ l) = true

abbrev pub table : List Row
table = record { time = 64; deadline = 64; taken = false } ∷ record { time = 63; deadline = 64; taken = true } ∷ []

module _ (voice : VoiceId) (name : Name) (action : EventAction) where
  abbrev pub right : List Row → Bool
  right [] = true
  right (x ∷ l) =
      beq (some? (taken_before x.deadline (record { time = x.time; voice = voice; name = name; action = action } ∷ []))) x.taken && right l

  -- whatever voice, name and action it has
  pub examples : right table ≡ true
  examples = refl
