-- Whose turn it is, what a wish is answered, and when a console is made: SPEC 17. The definitions of Wishes and Console say the same:
-- proofs/Rounds.antt.
use Rattle.std.specs.Prelude.{ℕ, ◌+◌, ◌≤◌, ◌<◌, ◌≡◌, ◌↔◌, ◌⊎◌, List, [], ◌∷◌, ◌++◌, length, Option, None, Some}
use Rattle.node.specs.declared.refusal.Refusal.{Refusal}
use Rattle.store.specs.declared.wish.Wish.{Wish}
use Rattle.model.specs.Make.{Making, config_of, new_model}
use Rattle.model.specs.Call.{step}
use Rattle.model.specs.Wish.{call_of}
use Rattle.refusals.specs.First.{First, NoneHolds}
use Rattle.refusals.specs.Making.{make_rows, make_when}
use Rattle.console.specs.declared.refusal.KeyboardRefusal.TheVariants.{OutOfRange, Full}
use Rattle.console.specs.Wishes.{keyboards, waiting_at}
use Rattle.console.specs.Console.{Console, wish, turn, ConsoleAnswer, plain, accepted, refused, served, empty, console_step, made, refused_by, refused_for, make_console}

-- ---- a turn
-- the keyboard that the answers say was served last; before the first it is `first`
abbrev pub last_served : Option ℕ → List ConsoleAnswer → Option ℕ
last_served first [] = first
last_served first (plain a ∷ l) = last_served first l
last_served first (accepted ∷ l) = last_served first l
last_served first (refused r ∷ l) = last_served first l
last_served first (served q a ∷ l) = last_served (Some q) l
last_served first (empty ∷ l) = last_served first l

-- where a round begins: behind the keyboard served last, at first with keyboard 0
abbrev pub begins : Option ℕ → ℕ
begins None = 0
begins (Some q) = q + 1

-- d keyboards on from p, upwards and round, of m keyboards, is q
pub record Upwards (m p d q : ℕ) : Type 0 where
  pub few : d < m
  pub one : q < m
  pub leads : (p + d ≡ q) ⊎ (p + d ≡ q + m)

-- The next keyboard, going round upwards, that has a wish is q; w is its oldest, and the others wait behind it.
pub record Next (m : ℕ) (last : Option ℕ) (waits : ℕ → List Wish) (q : ℕ) (w : Wish) : Type 0 where
  pub distance : ℕ
  pub round : Upwards m (begins last) distance q
  pub others : List Wish
  pub oldest : waits q ≡ w ∷ others
  -- those that come before it have none
  pub passed : (d p : ℕ) → d < distance → Upwards m (begins last) d p → waits p ≡ []

-- A turn makes that wish's spawn, and answers keyboard and answer. The wish waits no more, each other does. Where no wish waits it is
-- empty and changes nothing.
pub record Turns (m : ℕ) (last : Option ℕ) (c : Console) : Type 0 where
  pub answer : (q : ℕ) (w : Wish) → Next m last (λ p. waiting_at p c.wishes) q w → (console_step turn c).answer ≡ served q (step (call_of w) c.model).answer
  pub store : (q : ℕ) (w : Wish) → Next m last (λ p. waiting_at p c.wishes) q w → (console_step turn c).console.model ≡ (step (call_of w) c.model).model
  pub gone : (q : ℕ) (w : Wish) (n : Next m last (λ p. waiting_at p c.wishes) q w) → waiting_at q (console_step turn c).console.wishes ≡ n.others
  pub stay : (q : ℕ) (w : Wish) → Next m last (λ p. waiting_at p c.wishes) q w → (p : ℕ) → (p ≡ q → ⊥) → waiting_at p (console_step turn c).console.wishes ≡ waiting_at p c.wishes
  pub none : ((p : ℕ) → waiting_at p c.wishes ≡ []) → console_step turn c ≡ record { answer = empty; console = c }

-- ---- a wish, of keyboard q of m: 24, 25, or it waits behind those of its keyboard
pub record Waits (m : ℕ) (c : Console) (q : ℕ) (w : Wish) : Type 0 where
  pub no_keyboard : m ≤ q → console_step (wish q w) c ≡ record { answer = refused OutOfRange; console = c }
  pub full : q < m → 16 ≤ length (waiting_at q c.wishes) → console_step (wish q w) c ≡ record { answer = refused Full; console = c }
  pub taken : q < m → length (waiting_at q c.wishes) < 16 → (console_step (wish q w) c).answer ≡ accepted
  pub behind : q < m → length (waiting_at q c.wishes) < 16 → waiting_at q (console_step (wish q w) c).console.wishes ≡ waiting_at q c.wishes ++ (w ∷ [])
  pub stay : (p : ℕ) → (p ≡ q → ⊥) → waiting_at p (console_step (wish q w) c).console.wishes ≡ waiting_at p c.wishes
  pub store : (console_step (wish q w) c).console.model ≡ c.model

-- ---- making with n keyboards: 1, 2, 3, 20 of the store, and then 24
pub record MakesConsole (k : Making) (n : ℕ) : Type 0 where
  pub by_store : (r : Refusal) → (make_console k n ≡ refused_by r) ↔ First (make_when k) make_rows r
  pub by_keyboards : (make_console k n ≡ refused_for OutOfRange) ↔ (NoneHolds (make_when k) make_rows × ((n < 1) ⊎ (8 < n)))
  pub never : make_console k n ≡ refused_for Full → ⊥
  pub given : NoneHolds (make_when k) make_rows → 1 ≤ n → n ≤ 8 → (c : Console) × (make_console k n ≡ made c)
  -- a new store, n keyboards, and no wish
  pub new : (c : Console) → make_console k n ≡ made c → (c.model ≡ new_model (config_of k)) × (keyboards c.wishes ≡ n) × ((q : ℕ) → waiting_at q c.wishes ≡ [])
