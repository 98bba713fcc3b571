-- What the lent wishes stand for: each of eight keyboards has 16 rows, and its wishes are `count` of them from its row `start` on, going
-- round. What else stands in the rows is no part of the wishes; a count above 16 is 16, and more than eight keyboards are eight.
use Rattle.std.specs.Prelude.{ℕ, ◌+◌, ◌*◌, ◌%◌, ◌<◌, min, ◌≡◌, List, [], get_or, Option, None, Some}
use Rattle.voice_rows.specs.Rows.{each}
use Rattle.store.specs.declared.wish.Wish.{Wish}
use Rattle.console.specs.Wishes.{Wishes, waiting_at, Picked, oldest_or}
use Rattle.wish_rows.specs.Rows.{wish_of, wishes_in}
use Rattle.call_console.specs.declared.queues.Queue.{Queue}
use Rattle.call_console.specs.declared.queues.WishState.{WishState}

abbrev pub no_queue : Queue
no_queue = record { start = 0; count = 0 }

-- the row of the wish with i before it at keyboard q
abbrev pub place_in : ℕ → Queue → ℕ → ℕ
place_in q u i = q * 16 + (u.start + i) % 16

abbrev pub queue_of : List Wish → ℕ → Queue → List Wish
queue_of rows q u = each (λ i. get_or rows (place_in q u i) (wish_of [])) 0 (min u.count 16)

abbrev pub wishes_of : WishState → List ℕ → Wishes
wishes_of s c = record { waits = each (λ q. queue_of (wishes_in c) q (get_or s.queues q no_queue)) 0 (min s.keyboards 8); next = s.next }

-- ---- what is known of a keyboard between a test and what is then done
-- it has room for a wish
pub record Capacity (s : WishState) (q : ℕ) : Type 0 where
  pub inside : q < min s.keyboards 8
  pub spare : (get_or s.queues q no_queue).count < 16

-- a wish waits there
pub record Waits (s : WishState) (q : ℕ) : Type 0 where
  pub inside : q < min s.keyboards 8
  pub some : 0 < (get_or s.queues q no_queue).count

abbrev pub WaitsAt : WishState → Option ℕ → Type 0
WaitsAt s k = (q : ℕ) → k ≡ Some q → Waits s q

-- the keyboard, if there is one, with its oldest wish
abbrev pub picked_at : Option ℕ → Wishes → Option Picked
picked_at None ws = None
picked_at (Some q) ws = oldest_or (waiting_at q ws) q None
