-- Every call's contract is the theory's step (SPEC 21.8), so that a run of calls on lent memory is the theory's run
-- (SPEC 21.5); the console of an accepted making is the theory's new console.
use Rattle.std.specs.Prelude.{Result, Ok, Err}
use Prim.Native.Nat.{ℕ}
use native.Mathlib.Omega.{arith}
use mathlib.Core.Path.{◌≡◌, refl, ap, ◌∙◌}
use mathlib.Core.List.{List, ◌∷◌}
use Rattle.model.specs.Call.{Step}
use Rattle.memory.specs.View.{Memory}
use Rattle.memory.specs.Lent.{lent_state}
use Rattle.refinement.proofs.Refined as store
use Rattle.console.specs.Console.{Console, ConsoleCall, ConsoleAnswer, plain, ConsoleStep, ConsoleRan, console_run, ConsoleMade, made, make_console}
use Rattle.console.specs.Begins.{with_keyboards}
use Rattle.console.proofs.Claim.{console_claim, accepted as made_of_store}
use Rattle.console_isolation.specs.Isolated.{calls_from}
use Rattle.console_isolation.proofs.Theorem.{console_isolated}
use Rattle.replaced.proofs.Theorem.{replaced_same}
use Rattle.call_console.specs.declared.making.MakeRefusal.{MakeRefusal}
use Rattle.call_console.specs.declared.making.MakeRefusal.TheVariants.{Store, Keyboards}
use Rattle.call_console.specs.Queues.{wishes_of}
use Rattle.call_console.specs.Called.{ConsoleMemory, memory, console_of, Called, Kept, made_of}
use Rattle.call_console.proofs.making.make_console.Reads as fn-make-console
use Rattle.console_refinement.specs.Contract.{Contract, Runs, ends, calls}
use Rattle.console_refinement.specs.Contract as contract
use Rattle.console_refinement.specs.Refines.{Refines}

pub called : {x : ConsoleCall} {m : ConsoleMemory} {a : ConsoleAnswer} {n : ConsoleMemory} → Contract x m a n → Called x m a n
called (contract.on_store p w words) = ap (λ (s : Step). record { answer = plain s.answer; console = record { model = s.model; wishes = wishes_of w words } }) (store.called p)
called (contract.wish κs a r s p m) = p.0 m
called (contract.turn κs a r s p m) = p.0 m

-- a refused wish and an empty turn leave the very memory, and so on
pub kept : {x : ConsoleCall} {m : ConsoleMemory} {a : ConsoleAnswer} {n : ConsoleMemory} → Contract x m a n → Kept a m n
kept (contract.on_store p w words) = (refl, refl, store.kept p)
kept (contract.wish κs a r s p m) = p.1 m
kept (contract.turn κs a r s p m) = p.1 m

abbrev after : ConsoleAnswer → ConsoleRan → ConsoleRan
after a r = record { answers = a ∷ r.answers; console = r.console }

pub run_is : {m n : ConsoleMemory} {xs : List ConsoleCall} {said : List ConsoleAnswer} → Runs m xs said n → ◌≡◌ {A = ConsoleRan} (record { answers = said; console = console_of n }) (console_run xs (console_of m))
run_is ends = refl
run_is (calls {xs = xs} {a = a} e r) = ap (after a) (run_is r) ∙ ap (λ (s : ConsoleStep). after s.answer (console_run xs s.console)) (called e)

-- the console of an accepted making is the theory's, whatever stands in the tables
made_new : (o : ConsoleMade) (c d : Console) (a : Result (Unit {0}) MakeRefusal) → made_of a d ≡ o → o ≡ made c → d ≡ c
made_new o c d (Ok tt) e f = cc
made_new o c d (Err (Store r)) e f = let z : ◌≡◌ {A = ℕ} 0 1 = cc in absurd (omega arith)
made_new o c d (Err (Keyboards r)) e f = let z : ◌≡◌ {A = ℕ} 0 1 = cc in absurd (omega arith)

-- the refinement, from the contract of `make_console`
pub refines : (κs : _) (a : _) (r : _) (s : _) → fn-make-console.Post κs a r s
    → (c : Console) → make_console a.0 a.1.0 ≡ made c
    → (tables : Memory) (words : List ℕ) (last : ConsoleMemory) (xs : List ConsoleCall) (said : List ConsoleAnswer) → Runs (memory (lent_state r.state tables) r.wishes words) xs said last
    → Refines a.0 a.1.0 c xs said last
refines κs a r s p c accepted tables words last xs said ran =
    let k = a.0 in
    let n = a.1.0 in
    let new = made_new (make_console k n) c (console_of (memory (lent_state r.state tables) r.wishes words)) r.answer (p tables words) accepted in
    record {
      ran = run_is ran ∙ ap (console_run xs) new;
      claimed = console_claim k n c accepted xs;
      replaced = replaced_same k c.model (made_of_store k n c accepted).store (calls_from n xs);
      isolated = λ per o d e ids b₁ b₂ ys. console_isolated k n o c d (with_keyboards n c accepted) e per ids b₁ b₂ xs ys;
    }
