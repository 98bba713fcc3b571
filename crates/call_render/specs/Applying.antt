-- What the due events leave: the records of the nodes, and the voices that are freed. These are noted first, and removed all together
-- at the end (proofs/Freed.antt: that is the same as each at its event).
use Rattle.std.specs.Prelude.{ℕ, ◌+◌, ◌<◌, ◌≤◌, ◌≡◌, List, [], ◌∷◌, ◌++◌, length, Option, None, Some, find}
use Rattle.node.specs.declared.record.Node.{Node}
use Rattle.node.specs.declared.record.VoiceId.{VoiceId}
use Rattle.graph.specs.View.{with_nodes}
use Rattle.scheduler.specs.Queue.{taken_before, left_after}
use Rattle.scheduler.specs.declared.event.Event.{Event}
use Rattle.store.specs.declared.answer.Outcome.{Outcome}
use Rattle.voice.specs.declared.voices.Voice.{Voice}
use Rattle.model.specs.SharedState.{SharedState, with_graph, with_events}
use Rattle.model.specs.Model.{Model}
use Rattle.model.specs.Order.{free_outcome}
use Rattle.model.specs.Render.{apply_event, apply_events, outcome_of, outcomes}
use Rattle.lists.specs.Table.{rows_of}
use Rattle.lists.specs.Written.{written}
use Rattle.lists.specs.declared.rows.Table.{Table}
use Rattle.call_param.specs.Left.{is_known}
use Rattle.call_free.specs.Forgotten.{without_ids}

-- a model with these nodes and voices
abbrev pub scene : SharedState → List Node → List Voice → Model
scene d ns vs = record { shared = with_graph (with_nodes d.graph ns) d; voices = vs }

-- one voice more, if it is known
abbrev pub noted : Option Voice → List ℕ → ℕ → List ℕ
noted None l w = l
noted (Some v) l w = l ++ (w ∷ [])

-- the voices that are noted, by their ids
abbrev pub ids : Table ℕ 256 → List ℕ
ids t = rows_of 256 t.count t.rows

-- there is a place for one more
abbrev pub Spare : Table ℕ 256 → Type 0
Spare t = (t.count < 256) × (length t.rows ≡ 256)

pub record Noted (vs : List Voice) (w : VoiceId) (old new : Table ℕ 256) (o : Outcome) : Type 0 where
  pub is : ids new ≡ noted (find (is_known (ids old) w) vs) (ids old) w.0
  pub told : o ≡ free_outcome (find (is_known (ids old) w) vs)
  pub more : new.count ≤ old.count + 1
  pub long : length new.rows ≡ length old.rows

-- one event, and what became of it, whatever else the store holds
pub record EventApplied (vs : List Voice) (e : Event) (ns : List Node) (old : Table ℕ 256) (new-ns : List Node) (new : Table ℕ 256) (o : Outcome) : Type 0 where
  pub is : (d : SharedState) → without_ids (ids new) (scene d new-ns vs) ≡ apply_event e (without_ids (ids old) (scene d ns vs))
  pub told : (d : SharedState) → o ≡ outcome_of e (without_ids (ids old) (scene d ns vs))
  pub more : new.count ≤ old.count + 1
  pub long : length new.rows ≡ length old.rows

-- all of them, and the list of what became of them in the place of `lent`; every voice that is noted found room
pub record Left (ns : List Node) (vs : List Voice) (events : List Event) (new-ns : List Node) (freed : Table ℕ 256) (lent list : List ℕ) (taken : ℕ) : Type 0 where
  pub is : (d : SharedState) → apply_events events (scene d ns vs) ≡ without_ids (ids freed) (scene d new-ns vs)
  pub told : (d : SharedState) → list ≡ written (outcomes events (scene d ns vs)) lent
  pub many : taken ≡ length events
  pub fits : freed.count ≤ 256
  pub long : length freed.rows ≡ 256

-- the due events are removed from the queue, and applied
abbrev pub resting : ℕ → Model → Model
resting deadline m = record { shared = with_events (left_after deadline m.shared.events) m.shared; voices = m.voices }

pub record Handed (deadline : ℕ) (old new : Model) (lent list : List ℕ) (taken : ℕ) : Type 0 where
  pub is : new ≡ apply_events (taken_before deadline old.shared.events) (resting deadline old)
  pub told : list ≡ written (outcomes (taken_before deadline old.shared.events) (resting deadline old)) lent
  pub many : taken ≡ length (taken_before deadline old.shared.events)
