-- The queue of pending events: its order and who finds no place (SPEC 8.2), and what a deadline takes (SPEC 8.4).
use Rattle.node.specs.declared.refusal.Refusal.{Refusal}
use Rattle.std.specs.Prelude.{ℕ, ◌≤◌, ◌≡◌, List, [], ◌∷◌, ◌++◌, Bool, true, false, not, cond, length, take, drop, leb, ltb, Option, None, Some, filter, Result, Err, Ok}
use Rattle.node.specs.Refusal.{number_of}
use Rattle.node.specs.declared.refusal.Refusal.TheVariants.{TableFull}
use Rattle.scheduler.specs.Replace.{thinned}
use Rattle.scheduler.specs.declared.event.Event.{Event}

-- ---- scheduling

-- f is later than e
abbrev pub later : Event → Event → Bool
later e f = ltb e.time f.time

-- in front of the later event f, or behind it
abbrev pub before? : Bool → Event → Event → List Event → List Event → List Event
before? true e f l rest = e ∷ f ∷ l
before? false e f l rest = f ∷ rest

-- Before the first event that is later; at the end if none is. So it stands after all events of its own time, and a queue
-- that is ordered stays so (`Sorted`). Of a queue that is not ordered this is the meaning too.
abbrev pub inserted : Event → List Event → List Event
inserted e [] = e ∷ []
inserted e (f ∷ l) = before? (later e f) e f l (inserted e l)

-- the place p of an event: what stands before it and what stands after it
pub record Place (l : List Event) (e : Event) (p : ℕ) : Type 0 where
  pub within : p ≤ length l
  pub splits : inserted e l ≡ take p l ++ (e ∷ drop p l)

-- those that the new event replaces go (SPEC 8.3), and it is put behind what is left of its time
abbrev pub replacing : Event → List Event → List Event
replacing e l = inserted e (thinned e l)

-- no place is left (SPEC 2)
abbrev pub full : List Event → Bool
full l = leb 256 (length l)

-- 7, and the queue stays as it was, where it is full but for those that the new event replaces (SPEC 8.2)
abbrev pub queue_after : Event → List Event → List Event
queue_after e l = cond (full (thinned e l)) l (replacing e l)

abbrev pub answer_to : Event → List Event → Result (Unit {0}) Refusal
answer_to e l = cond (full (thinned e l)) (Err TableFull) (Ok tt)

-- the number that an answer stands for, or none
abbrev pub answer_number : Result (Unit {0}) Refusal → Option ℕ
answer_number (Ok tt) = None
answer_number (Err r) = Some (number_of r)

abbrev pub schedule_number : Event → List Event → Option ℕ
schedule_number e l = cond (full (thinned e l)) (Some 7) None

-- ---- taking what is due

-- strictly below the deadline
abbrev pub due : ℕ → Event → Bool
due deadline e = ltb e.time deadline

-- The events that a deadline takes, and those that it leaves, each in their order. Of an ordered queue the taken ones are
-- the first ones (`drained_prefix` of `Sorted`).
abbrev pub taken_before : ℕ → List Event → List Event
taken_before deadline l = filter (due deadline) l

abbrev pub left_after : ℕ → List Event → List Event
left_after deadline l = filter (λ e. not (due deadline e)) l
