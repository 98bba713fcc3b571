-- The store part of every run is the store's run on the calls that the list makes; and how many turns say that they served a keyboard.
use Prim.Native.Nat.{ℕ, ◌+◌}
use native.Mathlib.Omega.{arith}
use mathlib.Core.Path.{◌≡◌, refl, ap}
use mathlib.Core.List.{List, [], ◌∷◌, ◌++◌}
use Rattle.std.specs.Prelude.{Option, None, Some}
use mathlib.Core.Bool.{Bool, true, false, cond}
use lib.Dec.{eqb}
use lib.ListN.{length}
use Rattle.model.specs.Call.{step}
use Rattle.store.specs.declared.wish.Wish.{Wish}
use Rattle.model.specs.Wish.{call_of}
use Rattle.console.specs.declared.refusal.KeyboardRefusal.{KeyboardRefusal}
use Rattle.console.specs.Wishes.{wish_refusal, Picked, picked}
use Rattle.console.specs.Console.{Console, ConsoleCall, on, wish, turn, ConsoleStep, ConsoleRan, wished, turned, console_step, console_run, added_unless, taken_by, wishes_run, spawn_by, store_calls, served_by, served_of, serves_one}
use Rattle.console.specs.Claim.{StoreRun, serves_of}

abbrev PlainRun : List ConsoleCall → Console → Type 0
PlainRun xs h = StoreRun (console_run xs h) (store_calls xs h.wishes) (wishes_run xs h.wishes) h.model

abbrev then : ConsoleStep → ConsoleRan → ConsoleRan
then s r = record { answers = s.answer ∷ r.answers; console = r.console }

pub store_run : (xs : List ConsoleCall) (h : Console) → PlainRun xs h
store_run [] h = record { model = refl; answers = refl; wishes = refl }
store_run (on c ∷ xs) h =
    let r = store_run xs (console_step (on c) h).console in
    record { model = r.model; answers = ap (λ l. (step c h.model).answer ∷ l) r.answers; wishes = r.wishes }
store_run (wish q w ∷ xs) h = go (wish_refusal h.wishes q) (store_run xs)
  where
    go : (o : Option KeyboardRefusal) → ((k : Console) → PlainRun xs k)
        → StoreRun (then (wished o q w h) (console_run xs (wished o q w h).console)) (store_calls xs (added_unless o q w h.wishes)) (wishes_run xs (added_unless o q w h.wishes)) h.model
    go None ih = let r = ih (wished None q w h).console in record { model = r.model; answers = r.answers; wishes = r.wishes }
    go (Some d) ih = let r = ih h in record { model = r.model; answers = r.answers; wishes = r.wishes }
store_run (turn ∷ xs) h = go (picked h.wishes) (store_run xs)
  where
    go : (o : Option Picked) → ((k : Console) → PlainRun xs k)
        → StoreRun (then (turned o h) (console_run xs (turned o h).console)) (spawn_by o ++ store_calls xs (taken_by o h.wishes)) (wishes_run xs (taken_by o h.wishes)) h.model
    go None ih = let r = ih h in record { model = r.model; answers = r.answers; wishes = r.wishes }
    go (Some p) ih =
        let r = ih (turned (Some p) h).console in
        record { model = r.model; answers = ap (λ l. (step (call_of p.wish) h.model).answer ∷ l) r.answers; wishes = r.wishes }

pub answers_served : (xs : List ConsoleCall) (h : Console) (q : ℕ) → serves_of q (console_run xs h).answers ≡ length (served_of q xs h.wishes)
answers_served [] h q = refl
answers_served (on c ∷ xs) h q = let e = answers_served xs (console_step (on c) h).console q in omega (arith, e)
answers_served (wish p w ∷ xs) h q = go (wish_refusal h.wishes p) (λ k. answers_served xs k q)
  where
    go : (o : Option KeyboardRefusal) → ((k : Console) → serves_of q (console_run xs k).answers ≡ length (served_of q xs k.wishes))
        → serves_one q (wished o p w h).answer + serves_of q (console_run xs (wished o p w h).console).answers ≡ length (served_of q xs (added_unless o p w h.wishes))
    go None ih = let e = ih (wished None p w h).console in omega (arith, e)
    go (Some d) ih = let e = ih h in omega (arith, e)
answers_served (turn ∷ xs) h q = go (picked h.wishes) (λ k. answers_served xs k q)
  where
    at : (b : Bool) (w : Wish) (n : ℕ) (l : List Wish) → n ≡ length l → cond b 1 0 + n ≡ length (cond b (w ∷ []) [] ++ l)
    at true w n l e = omega (arith, e)
    at false w n l e = omega (arith, e)

    go : (o : Option Picked) → ((k : Console) → serves_of q (console_run xs k).answers ≡ length (served_of q xs k.wishes))
        → serves_one q (turned o h).answer + serves_of q (console_run xs (turned o h).console).answers ≡ length (served_by q o ++ served_of q xs (taken_by o h.wishes))
    go None ih = let e = ih h in omega (arith, e)
    go (Some p) ih = at (eqb q p.keyboard) p.wish _ _ (ih (turned (Some p) h).console)
