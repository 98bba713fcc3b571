-- Two machines are given the same calls (SPEC 21.3). A is the store, whose `schedule` replaces (SPEC 8.3). B is the
-- store but for `schedule`: it is given exactly the events that A accepted, and keeps them all, without a limit.
use Rattle.std.specs.Prelude.{◌≡◌, List, [], ◌∷◌, Bool, true, false, ◌||◌, not, Option, None, Some, cond}
use Rattle.node.specs.declared.refusal.Refusal.{Refusal}
use Rattle.scheduler.specs.Queue.{inserted}
use Rattle.scheduler.specs.Replace.{replaces}
use Rattle.scheduler.specs.declared.event.Event.{Event}
use Rattle.model.specs.SharedState.{with_events}
use Rattle.model.specs.Model.{Model}
use Rattle.model.specs.Call.{Call, Step, Ran, event, schedule_refusal, step}
use Rattle.model.specs.Call as call

-- the same store with another queue
abbrev pub with_queue : List Event → Model → Model
with_queue q m = record { shared = with_events q m.shared; voices = m.voices }

-- two stores are the same but for their pending events
abbrev pub SameButEvents : Model → Model → Type 0
SameButEvents a b = with_queue [] a ≡ with_queue [] b

-- ---- machine B
-- the event that a call schedules, if it is such a call
abbrev pub scheduled : Call → Option Event
scheduled (call.schedule t w name a) = Some (event t w name a)
scheduled x = None

-- the other call that looks at the queue
abbrev pub is_render : Call → Bool
is_render (call.render out) = true
is_render x = false

-- what A refused is not given to B; what A accepted is put behind the others of its time, and none is removed
abbrev pub kept_unless : Option Refusal → Event → Model → Step
kept_unless None e b = record { answer = call.done; model = with_queue (inserted e b.shared.events) b }
kept_unless (Some r) e b = record { answer = call.refused r; model = b }

abbrev pub kept_by : Option Event → Call → Model → Model → Step
kept_by None x a b = step x b
kept_by (Some e) x a b = kept_unless (schedule_refusal e a.shared.events) e b

-- B's step, where A is in the state a and B in the state b
abbrev pub kept_step : Call → Model → Model → Step
kept_step x a b = kept_by (scheduled x) x a b

abbrev pub kept_run : List Call → Model → Model → Ran
kept_run [] a b = record { answers = []; model = b }
kept_run (x ∷ xs) a b =
    let s = kept_step x a b in
    let r = kept_run xs (step x a).model s.model in
    record { answers = s.answer ∷ r.answers; model = r.model }

-- ---- what is left of a queue in which nothing was replaced
-- a later pending event replaces it
abbrev pub overtaken : Event → List Event → Bool
overtaken e [] = false
overtaken e (f ∷ q) = replaces f e || overtaken e q

-- the events that no later one replaces
abbrev pub lasts : List Event → List Event
lasts [] = []
lasts (e ∷ q) = cond (not (overtaken e q)) (e ∷ (lasts q)) (lasts q)
