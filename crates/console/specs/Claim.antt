-- What is proved of every console that calls made and every list of calls, refused ones too: the list xs from a newly made console, then
-- the list ys.
use Rattle.std.specs.Prelude.{ℕ, ◌+◌, ◌*◌, ◌≤◌, ◌<◌, ◌≡◌, List, [], ◌∷◌, ◌++◌, length, None, Some, slice_get}
use Rattle.model.specs.Model.{Model}
use Rattle.model.specs.Make.{Making, config_of}
use Rattle.model.specs.Call.{Call, run}
use Rattle.ledger.specs.Claim.{Claim}
use Rattle.store.specs.declared.wish.Wish.{Wish}
use Rattle.console.specs.Wishes.{Wishes, keyboards, waiting_at, new_wishes}
use Rattle.console.specs.Rounds.{last_served, Turns, Waits}
use Rattle.console.specs.Console.{Console, ConsoleCall, ConsoleAnswer, ConsoleRan, console_run, wishes_run, store_calls, served_of, accepted_of, turns, store_answers, serves_one}

-- The run r is, on the store m, the run of the calls cs; and it leaves the wishes ws.
pub record StoreRun (r : ConsoleRan) (cs : List Call) (ws : Wishes) (m : Model) : Type 0 where
  pub model : r.console.model ≡ (run cs m).model
  pub answers : store_answers r.answers ≡ (run cs m).answers
  pub wishes : r.console.wishes ≡ ws

abbrev pub serves_of : ℕ → List ConsoleAnswer → ℕ
serves_of q [] = 0
serves_of q (r ∷ rs) = serves_one q r + serves_of q rs

-- of m keyboards, with the wishes ws waiting
pub record Fair (m : ℕ) (ws : Wishes) (ys : List ConsoleCall) : Type 0 where
  -- "its oldest wish": what was served of a keyboard, and then what waits, is what waited, and then what was accepted. So each
  -- keyboard's wishes are served in the order accepted, none is lost and none served twice
  pub in_order : (q : ℕ) → served_of q ys ws ++ waiting_at q (wishes_run ys ws) ≡ waiting_at q ws ++ accepted_of q ys ws
  -- "With m keyboards, a wish with k before it on its own keyboard is served within (k + 1) × m turns, whatever the others send."
  pub within : (q k : ℕ) (w : Wish) → slice_get (waiting_at q ws) k ≡ Some w → (k + 1) * m ≤ turns ys → slice_get (served_of q ys ws) k ≡ Some w
  -- "16 waiting each"
  pub sixteen : (q : ℕ) → length (waiting_at q ws) ≤ 16

pub record ConsoleClaim (k : Making) (m : ℕ) (c : Console) (xs : List ConsoleCall) : Type 0 where
  pub positive : 0 < m
  pub eight : m ≤ 8
  -- the store part is the store's run on the list with each turn replaced by the spawn it serves, which the store does not decide
  pub store : StoreRun (console_run xs c) (store_calls xs (new_wishes m)) (wishes_run xs (new_wishes m)) c.model
  -- so demand 3's claim holds of it
  pub claim : Claim (config_of k) c.model (store_calls xs (new_wishes m))
  -- the wishes that are left: so many keyboards, and the next is one of them
  pub keyboards : keyboards (wishes_run xs (new_wishes m)) ≡ m
  pub next : (wishes_run xs (new_wishes m)).next < m
  -- and from there every list ys
  pub fair : (ys : List ConsoleCall) → Fair m (wishes_run xs (new_wishes m)) ys
  -- what the turns answer: of keyboard q as many say that it was served as wishes of it were
  pub answers : (q : ℕ) → serves_of q (console_run xs c).answers ≡ length (served_of q xs (new_wishes m))
  -- whose turn is next, and what a wish is answered
  pub turns : Turns m (last_served None (console_run xs c).answers) (console_run xs c).console
  pub waits : (q : ℕ) (w : Wish) → Waits m (console_run xs c).console q w
