-- A new console, with keyboards or without.
use Prim.Native.Nat.{ℕ, ◌<◌}
use native.Mathlib.Omega.{arith}
use mathlib.Core.Path.{◌≡◌, refl, ap, ◌∙◌, subst}
use mathlib.Core.List.{List, [], ◌∷◌}
use mathlib.Core.Bool.{cond}
use lib.Dec.{leb}
use lib.ListN.{length}
use borrow.Author.Tests.{le-leb}
use Rattle.std.specs.Prelude.{None, Some}
use Rattle.model.specs.Make.{Making, make}
use Rattle.console.specs.declared.refusal.KeyboardRefusal.TheVariants.{OutOfRange, Full}
use Rattle.console.specs.Wishes.{waiting_at, wish_refusal, picked, new_wishes}
use Rattle.console.specs.Console.{Console, ConsoleCall, on, wish, turn, added_unless, wished, turned, console_run, wishes_run, store_calls}
use Rattle.console.specs.Claim.{StoreRun, ConsoleClaim}
use Rattle.console.specs.Begins.{Begins, with_keyboards, alone, NoKeyboards}
use Rattle.console.proofs.Plain.{store_run}
use Rattle.console.proofs.Claim.{accepted, console_claim}

-- the store that was made, and nothing waits
pub record Begun (k : Making) (n : ℕ) (c : Console) : Type 0 where
  pub store : make k ≡ Some c.model
  pub wishes : c.wishes ≡ new_wishes n

pub begun : (k : Making) (n : ℕ) (c : Console) → Begins k n c → Begun k n c
begun k _ _ (with_keyboards n c e) = let a = accepted k n c e in record { store = a.store; wishes = a.wishes }
begun k _ _ (alone m e) = record { store = e; wishes = refl }

-- its store part is the store's run
pub begun_store : (k : Making) (n : ℕ) (c : Console) → Begins k n c → (xs : List ConsoleCall)
    → StoreRun (console_run xs c) (store_calls xs (new_wishes n)) (wishes_run xs (new_wishes n)) c.model
begun_store k n c b xs = subst (λ ws. StoreRun (console_run xs c) (store_calls xs ws) (wishes_run xs ws) c.model) (begun k n c b).wishes (store_run xs c)

pub with_some : (k : Making) (n : ℕ) (c : Console) → Begins k n c → 0 < n → (xs : List ConsoleCall) → ConsoleClaim k n c xs
with_some k _ _ (with_keyboards n c e) h xs = console_claim k n c e xs
with_some k _ _ (alone m e) h xs = absurd (omega arith)

-- ---- where there is no keyboard nothing waits, whatever is called
none_refused : (q : ℕ) → wish_refusal (new_wishes 0) q ≡ Some OutOfRange
none_refused q = ap (λ b. cond b (Some OutOfRange) (cond (leb 16 (length (waiting_at q (new_wishes 0)))) (Some Full) None)) (le-leb 0 q (omega arith))

pub none_wait : (xs : List ConsoleCall) → wishes_run xs (new_wishes 0) ≡ new_wishes 0
none_wait [] = refl
none_wait (on c ∷ xs) = none_wait xs
none_wait (wish q w ∷ xs) = ap (λ o. wishes_run xs (added_unless o q w (new_wishes 0))) (none_refused q) ∙ none_wait xs
none_wait (turn ∷ xs) = none_wait xs

pub no_keyboards : (c : Console) → c.wishes ≡ new_wishes 0 → NoKeyboards c
no_keyboards c e =
    record {
      wishes = λ q w. ap (λ o. wished o q w c) (ap (λ ws. wish_refusal ws q) e ∙ none_refused q);
      turns = ap (λ ws. turned (picked ws) c) e;
    }
