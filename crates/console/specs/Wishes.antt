-- The wishes that wait at the keyboards, and whose turn is next (SPEC 17).
use Rattle.std.specs.Prelude.{ℕ, zero, suc, List, [], ◌∷◌, ◌++◌, cond, leb, ltb, length, get_or, set, replicate, Option, None, Some}
use Rattle.store.specs.declared.wish.Wish.{Wish}
use Rattle.console.specs.declared.refusal.KeyboardRefusal.{KeyboardRefusal}
use Rattle.console.specs.declared.refusal.KeyboardRefusal.TheVariants.{OutOfRange, Full}

-- what waits at each keyboard, the oldest first; `next` is the keyboard behind the last served, 0 to begin with
pub record Wishes : Type 0 where
  pub waits : List (List Wish)
  pub next : ℕ

abbrev pub keyboards : Wishes → ℕ
keyboards ws = length ws.waits

abbrev pub waiting_at : ℕ → Wishes → List Wish
waiting_at q ws = get_or ws.waits q []

-- 24: no such keyboard; then 25: 16 wishes wait there
abbrev pub wish_refusal : Wishes → ℕ → Option KeyboardRefusal
wish_refusal ws q = cond (leb (keyboards ws) q) (Some OutOfRange) (cond (leb 16 (length (waiting_at q ws))) (Some Full) None)

-- the wish waits behind those of its keyboard
abbrev pub added : ℕ → Wish → Wishes → Wishes
added q w ws = record { waits = set ws.waits q (waiting_at q ws ++ (w ∷ [])); next = ws.next }

-- the keyboard behind q of m, going round
abbrev pub after : ℕ → ℕ → ℕ
after m q = cond (ltb (suc q) m) (suc q) 0

pub record Picked : Type 0 where
  pub keyboard : ℕ
  pub wish : Wish

-- the keyboard's oldest wish, if it has one; else what the keyboards behind it give
abbrev pub oldest_or : List Wish → ℕ → Option Picked → Option Picked
oldest_or [] q o = o
oldest_or (w ∷ l) q o = Some (record { keyboard = q; wish = w })

-- the first of n keyboards, going round from q, that has a wish
abbrev pub search : ℕ → Wishes → ℕ → Option Picked
search zero ws q = None
search (suc n) ws q = oldest_or (waiting_at q ws) q (search n ws (after (keyboards ws) q))

-- whom a turn serves: the first keyboard with a wish, each looked at once from `next` on
abbrev pub picked : Wishes → Option Picked
picked ws = search (keyboards ws) ws ws.next

abbrev pub rest : List Wish → List Wish
rest [] = []
rest (w ∷ l) = l

-- a wish of keyboard q is served: it waits no more, and the next turn begins behind q
abbrev pub taken_from : ℕ → Wishes → Wishes
taken_from q ws = record { waits = set ws.waits q (rest (waiting_at q ws)); next = after (keyboards ws) q }

-- 24, unless there are 1 to 8 keyboards
abbrev pub keyboards_refusal : ℕ → Option KeyboardRefusal
keyboards_refusal m = cond (ltb 0 m) (cond (leb m 8) None (Some OutOfRange)) (Some OutOfRange)

abbrev pub new_wishes : ℕ → Wishes
new_wishes m = record { waits = replicate m []; next = 0 }
