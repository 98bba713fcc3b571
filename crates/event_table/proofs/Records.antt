-- Two events with the same fields are the same event.
use Prim.Native.Nat.{ℕ}
use mathlib.Core.Path.{◌≡◌}
use Rattle.node.specs.declared.name.Name.{Name}
use Rattle.node.specs.declared.order.EventAction.{EventAction}
use Rattle.node.specs.declared.record.VoiceId.{VoiceId}
use Rattle.scheduler.specs.declared.event.Event.{Event}

made : ℕ → VoiceId → Name → EventAction → Event
made t v n a = record { time = t; voice = v; name = n; action = a }

pub event_same : (e f : Event) → e.time ≡ f.time → e.voice ≡ f.voice → e.name ≡ f.name → e.action ≡ f.action → e ≡ f
unfolding made
event_same e f p q r s = let same : made e.time e.voice e.name e.action ≡ made f.time f.voice f.name f.action = cc in same
