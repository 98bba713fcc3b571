-- What replacing leaves as it is (SPEC 21.3), said of the store after a list of calls and of the call that is next:
-- machine A, which replaces, and machine B, which keeps all that A accepted (`Kept`), are the same but for their
-- pending events, and answer the same but for what shows these.
use Rattle.std.specs.Prelude.{ℕ, ◌≡◌, List, [], ◌∷◌, false, not, length, Option, None, Some, cond}
use Rattle.node.specs.declared.refusal.Refusal.{Refusal}
use Rattle.scheduler.specs.declared.event.Event.{Event}
use Rattle.store.specs.declared.answer.Rendered.{Rendered}
use Rattle.model.specs.Model.{Model}
use Rattle.lists.specs.Written.{written}
use Rattle.model.specs.Render.{due, rested, outcomes, render_refusal}
use Rattle.model.specs.Call.{Call, step, run}
use Rattle.model.specs.Call as call
use Rattle.replaced.specs.Kept.{SameButEvents, is_render, kept_step, kept_run, overtaken, lasts}

-- ---- the list of a render has the events that are left
-- the events that a render takes, and what became of each; a refused one takes none
abbrev pub taken_by : Option Refusal → Model → List Event
taken_by None m = due m.shared
taken_by (Some r) m = []

abbrev pub told_by : Option Refusal → Model → List ℕ
told_by None m = outcomes (due m.shared) (rested m)
told_by (Some r) m = []

-- the entries of the events that no later one replaces
abbrev pub left_of : List Event → List ℕ → List ℕ
left_of [] l = []
left_of (e ∷ q) [] = []
left_of (e ∷ q) (o ∷ l) = cond (not (overtaken e q)) (o ∷ (left_of q l)) (left_of q l)

-- What a render with the lent list `out` answers, by A in the state a and by B in the state b: the same, but that A's list has not the
-- entries of the events that were replaced.
pub record ToldAlike (a b : Model) (out : List ℕ) : Type 0 where
  pub says : Rendered
  pub entries : List ℕ
  pub all : entries ≡ told_by (render_refusal b.shared (length out)) b
  pub theirs : (step (call.render out) b).answer ≡ call.rendered says (length entries) (written entries out)
  pub left : List ℕ
  pub less : left ≡ left_of (taken_by (render_refusal b.shared (length out)) b) entries
  pub mine : (step (call.render out) a).answer ≡ call.rendered says (length left) (written left out)

-- ---- after the calls xs on a newly made store m
pub record Replaced (m : Model) (xs : List Call) : Type 0 where
  -- the store is, but for its pending events, what it would be if no event had been replaced
  pub same : SameButEvents (run xs m).model (kept_run xs m m).model
  -- A's pending events are B's, in their order, without every one that a later pending event replaces
  pub pending : (run xs m).model.shared.events ≡ lasts (kept_run xs m m).model.shared.events
  -- the next call is answered the same, also by refusals
  pub answers : (x : Call) → is_render x ≡ false → (step x (run xs m).model).answer ≡ (kept_step x (run xs m).model (kept_run xs m m).model).answer
  -- or is a render, whose list shows the events left
  pub renders : (out : List ℕ) → ToldAlike (run xs m).model (kept_run xs m m).model out
