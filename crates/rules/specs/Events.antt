-- What is pending after a call, and when scheduling is refused: SPEC 8.2 to 8.4.
use Rattle.std.specs.Prelude.{ℕ, ◌≤◌, ◌<◌, ◌≡◌, ◌↔◌, List, [], ◌∷◌, ◌++◌, length, Some}
use Rattle.lists.specs.Member.{In}
use Rattle.node.specs.Name.{name_of, text}
use Rattle.node.specs.declared.name.Name.{Name}
use Rattle.node.specs.declared.order.EventAction.{EventAction}
use Rattle.node.specs.declared.order.EventAction.TheVariants as action
use Rattle.node.specs.declared.refusal.Refusal.TheVariants.{TableFull}
use Rattle.scheduler.specs.declared.event.Event.{Event}
use Rattle.model.specs.Model.{Model}
use Rattle.model.specs.Make.{Making, make}
use Rattle.model.specs.Call.{Call, Step, step, run}
use Rattle.model.specs.Call as call
use Rattle.rules.specs.Left.{Without, No}
use Rattle.rules.specs.Render.{block_end, Accepted}

-- ---- which pending event a new one replaces
pub data Sort : Type 0 where
  value : Sort
  glide : Sort

-- a name of 1 to 16 bytes
pub record Named (n : Name) : Type 0 where
  pub one : 1 ≤ n.len
  pub sixteen : n.len ≤ 16

-- The action, with this name beside it, sets the parameter of these bytes by a value or by a glide. A gate sets
-- `gate` by a value, whatever stands beside it; a free sets nothing, and neither does a value or a glide without a
-- name.
abbrev pub Sets : EventAction → Name → Sort → List ℕ → Type 0
Sets (action.Value x) n s p = (s ≡ value) × Named n × (p ≡ text n)
Sets (action.Glide g) n s p = (s ≡ glide) × Named n × (p ≡ text n)
Sets (action.Gate x) n s p = (s ≡ value) × (p ≡ 103 ∷ 97 ∷ 116 ∷ 101 ∷ [])
Sets action.Free n s p = ⊥

-- the new event e and the pending event f are for one time and one voice, and set one parameter by the same sort of
-- order
pub record Replaces (e f : Event) : Type 0 where
  pub time : e.time ≡ f.time
  pub voice : e.voice.0 ≡ f.voice.0
  pub sort : Sort
  pub parameter : List ℕ
  pub mine : Sets e.action e.name sort parameter
  pub theirs : Sets f.action f.name sort parameter

-- ---- scheduling
-- the queue has 256 events, and the new one replaces none of them
pub record Full (e : Event) (q : List Event) : Type 0 where
  pub many : length q ≡ 256
  pub none : No (Replaces e) q

-- the queue r is q without what e replaces, and e stands in it behind all that is not later
pub record Placed (e : Event) (q r : List Event) : Type 0 where
  pub before : List Event
  pub behind : List Event
  pub stands : r ≡ before ++ (e ∷ behind)
  pub others : Without (Replaces e) q (before ++ behind)
  pub not_later : (f : Event) → In f before → f.time ≤ e.time
  pub later : (f : Event) → In f behind → e.time < f.time

-- the store m with these pending events, and nothing else changed
abbrev pub pending : List Event → Model → Model
pending q m = record m { shared = record m.shared { events = q } }

-- what a call that schedules e did
pub record Schedules (e : Event) (m : Model) (s : Step) : Type 0 where
  -- 7 exactly when the queue is full and nothing is replaced, whatever the time, the voice, the name and the action
  pub seven : (s.answer ≡ call.refused TableFull) ↔ Full e m.shared.events
  pub unchanged : Full e m.shared.events → s.model ≡ m
  pub done : (Full e m.shared.events → ⊥) → s.answer ≡ call.done
  pub placed : (Full e m.shared.events → ⊥) → (q : List Event) × Placed e m.shared.events q × (s.model ≡ pending q m)

-- ---- rendering
-- the events that are due stand before the end of the block: they are taken, and the others stay
pub record Takes (out : List ℕ) (m : Model) (left : List Event) : Type 0 where
  pub due : Accepted out m → Without (λ e. e.time < block_end m) m.shared.events left
  pub refused : (Accepted out m → ⊥) → left ≡ m.shared.events

-- ---- what is pending after a call: only scheduling and rendering change it
abbrev pub Pending : Call → Model → Type 0
Pending (call.schedule t w name a) m =
    Schedules (record { time = t; voice = w; name = name_of name; action = a }) m (step (call.schedule t w name a) m)
Pending (call.render out) m = Takes out m (step (call.render out) m).model.shared.events
Pending x m = (step x m).model.shared.events ≡ m.shared.events

-- ---- no pending event is later than one behind it
abbrev pub InOrder : List Event → Type 0
InOrder [] = Unit {0}
InOrder (e ∷ q) = ((f : Event) → In f q → e.time ≤ f.time) × InOrder q

pub record Queue (q : List Event) : Type 0 where
  pub order : InOrder q
  pub fits : length q ≤ 256

-- ---- after every list of calls on a newly made store
abbrev pub QueueAlways : Type 0
QueueAlways = (k : Making) (m : Model) → make k ≡ Some m → (xs : List Call) → Queue (run xs m).model.shared.events

-- and of every next call
abbrev pub PendingAlways : Type 0
PendingAlways = (k : Making) (m : Model) → make k ≡ Some m → (xs : List Call) (x : Call) → Pending x (run xs m).model
