-- What scheduling on lent words promises, in the definitions of crate scheduler: the queue is the first `count` rows.
use Rattle.std.specs.Prelude.{ℕ, ◌+◌, ◌≡◌, List, true, false, length, take, Result, Err, Ok}
use Rattle.node.specs.declared.refusal.Refusal.{Refusal}
use Rattle.node.specs.declared.refusal.Refusal.TheVariants.{TableFull}
use Rattle.scheduler.specs.Replace.{thinned}
use Rattle.scheduler.specs.Queue.{full, queue_after, answer_to, answer_number, schedule_number}
use Rattle.scheduler.specs.declared.event.Event.{Event}
use Rattle.words.specs.Place.{Holds}
use Rattle.event_table.specs.Rows.{events_in}

-- what is left of a queue is in the words and has a place for one more; or it is full, and the words are the very ones
abbrev pub Thinned : List Event → List ℕ → Result ℕ Refusal → List ℕ → Type 0
Thinned left old (Ok n) new = (full left ≡ false) × Holds (events_in new) n left
Thinned left old (Err r) new = (full left ≡ true) × (r ≡ TableFull) × (new ≡ old)

-- the answer without the number of events, and how many there are then of `count`: as many where it is refused
abbrev pub said : Result ℕ Refusal → Result (Unit {0}) Refusal
said (Ok n) = Ok tt
said (Err r) = Err r

abbrev pub held : ℕ → Result ℕ Refusal → ℕ
held count (Ok n) = n
held count (Err r) = count

-- "Scheduling an event gives 7 or nothing": refused, words and count are the very ones; taken, those that it replaces are removed and there
-- is one event more
pub record Queued (count : ℕ) (e : Event) (old : List ℕ) (r : Result ℕ Refusal) (new : List ℕ) : Type 0 where
  pub answer : said r ≡ answer_to e (take count (events_in old))
  pub number : answer_number (said r) ≡ schedule_number e (take count (events_in old))
  pub queue : take (held count r) (events_in new) ≡ queue_after e (take count (events_in old))
  pub taken : full (thinned e (take count (events_in old))) ≡ false → held count r ≡ length (thinned e (take count (events_in old))) + 1
  pub kept : full (thinned e (take count (events_in old))) ≡ true → (held count r ≡ count) × (new ≡ old)
