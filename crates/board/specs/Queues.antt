-- What waits, of the queues of so many keyboards; and what its calls answer.
use Rattle.std.specs.Prelude.{ℕ, ◌<◌, ◌≡◌, List, map, take, length, Option, None, Some, Result, Ok, Err}
use Rattle.arrayvec.specs.ArrayVec.{ArrayVec}
use Rattle.store.specs.declared.wish.Wish.{Wish}
use Rattle.console.specs.declared.refusal.KeyboardRefusal.{KeyboardRefusal}
use Rattle.console.specs.Wishes.{Wishes, waiting_at, Picked, oldest_or}

-- a queue is a keyboard
abbrev pub waiting_in : List (ArrayVec Wish) → ℕ → Wishes
waiting_in queues next = record { waits = map (λ (v : ArrayVec Wish). v.items) queues; next = next }

abbrev pub wishes_of : List (ArrayVec Wish) → ℕ → ℕ → Wishes
wishes_of queues count next = waiting_in (take count queues) next

-- the keyboard, if there is one, with its oldest wish
abbrev pub picked_at : Option ℕ → Wishes → Option Picked
picked_at None ws = None
picked_at (Some q) ws = oldest_or (waiting_at q ws) q None

-- a wish waits at that keyboard
abbrev pub Waits : Wishes → Option ℕ → Type 0
Waits ws k = (q : ℕ) → k ≡ Some q → 0 < length (waiting_at q ws)

-- a wish is refused, or waits
abbrev pub said : Option KeyboardRefusal → Result (Unit {0}) KeyboardRefusal
said None = Ok tt
said (Some r) = Err r
