-- The claim of Paper 11, for every making that is accepted and every list of calls.
use Prim.Native.Nat.{ℕ, ◌≤◌, ◌<◌}
use native.Mathlib.Omega.{arith}
use mathlib.Core.Path.{◌≡◌, refl, sym, ap, ◌∙◌, subst}
use mathlib.Core.List.{List}
use Rattle.std.specs.Prelude.{Option, None, Some}
use mathlib.Core.Bool.{Bool, true, false, cond}
use lib.Dec.{leb, ltb}
use lib.ListN.{length}
use borrow.Author.Tests.{ltb-true, leb-true}
use Rattle.lists.proofs.Member.{none_some}
use Rattle.node.specs.declared.refusal.Refusal.{Refusal}
use Rattle.model.specs.Make.{Making, config_of, refusal_of, new_model, make}
use Rattle.model.specs.Make as model
use Rattle.ledger.proofs.Claim.{claim}
use Rattle.console.specs.declared.refusal.KeyboardRefusal.{KeyboardRefusal}
use Rattle.console.specs.declared.refusal.KeyboardRefusal.TheVariants.{OutOfRange}
use Rattle.console.specs.Wishes.{keyboards_refusal, new_wishes}
use Rattle.console.specs.Console.{Console, ConsoleCall, made, console_run, wishes_run, store_calls, served_of, with_keyboards, made_unless, make_console}
use Rattle.console.specs.Claim.{StoreRun, ConsoleClaim, serves_of}
use Rattle.console.proofs.Plain.{store_run, answers_served}
use Rattle.console.proofs.Fifo.{in_order, at_most_16, new_16}
use mathlib.Core.Logic.{inl}
use Rattle.console.proofs.Rounds.{Begins, begins_run, turns_exactly, waits_exactly}
use Rattle.console.proofs.Fair.{run_invariant, new_invariant, within}

-- "From 1 to 8 keyboards"
one_to_eight : (m : ℕ) → keyboards_refusal m ≡ None → (0 < m) × (m ≤ 8)
one_to_eight m h = go (ltb 0 m) refl (leb m 8) refl h
  where
    go : (a : Bool) → ltb 0 m ≡ a → (b : Bool) → leb m 8 ≡ b → cond a (cond b None (Some OutOfRange)) (Some OutOfRange) ≡ None → (0 < m) × (m ≤ 8)
    go false e b f h = absurd (none_some (sym h))
    go true e false f h = absurd (none_some (sym h))
    go true e true f h = (ltb-true _ _ e, leb-true _ _ f)

-- what an accepted making is
pub record Accepted (k : Making) (m : ℕ) (c : Console) : Type 0 where
  pub store : make k ≡ Some c.model
  pub wishes : c.wishes ≡ new_wishes m
  pub range : (0 < m) × (m ≤ 8)

pub accepted : (k : Making) (m : ℕ) (c : Console) → make_console k m ≡ made c → Accepted k m c
accepted k m c e = go (refusal_of k) refl (keyboards_refusal m) refl e
  where
    new : Console
    new = record { model = new_model (config_of k); wishes = new_wishes m }

    go : (a : Option Refusal) → refusal_of k ≡ a → (b : Option KeyboardRefusal) → keyboards_refusal m ≡ b → made_unless a (with_keyboards b new) ≡ made c → Accepted k m c
    go (Some r) p b q e = let z : ◌≡◌ {A = ℕ} 0 1 = cc in absurd (omega arith)
    go None p (Some r) q e = let z : ◌≡◌ {A = ℕ} 0 1 = cc in absurd (omega arith)
    go None p None q e =
        let z : new ≡ c = cc in
        record { store = ap (λ o. model.made_unless o (new_model (config_of k))) p ∙ ap (λ (x : Console). Some x.model) z; wishes = ap (λ (x : Console). x.wishes) (sym z); range = one_to_eight m q }

pub console_claim : (k : Making) (m : ℕ) (c : Console) → make_console k m ≡ made c → (xs : List ConsoleCall) → ConsoleClaim k m c xs
console_claim k m c e xs =
    let a = accepted k m c e in
    let g = run_invariant xs m (new_wishes m) (new_invariant m a.range.0) in
    let b = begins_run xs m None c (subst (λ ws. Begins m None ws) (sym a.wishes) (record { invariant = new_invariant m a.range.0; start = inl refl; most = omega arith })) in
    record {
      positive = a.range.0;
      eight = a.range.1;
      store = subst (λ ws. StoreRun (console_run xs c) (store_calls xs ws) (wishes_run xs ws) c.model) a.wishes (store_run xs c);
      claim = claim k c.model a.store (store_calls xs (new_wishes m));
      keyboards = g.many;
      next = g.next;
      fair = λ ys. record {
        in_order = in_order ys (wishes_run xs (new_wishes m));
        within = within ys m (wishes_run xs (new_wishes m)) g;
        sixteen = at_most_16 xs (new_wishes m) (new_16 m);
      };
      answers = λ q. subst (λ ws. serves_of q (console_run xs c).answers ≡ length (served_of q xs ws)) a.wishes (answers_served xs c q);
      turns = turns_exactly m _ (console_run xs c).console b;
      waits = waits_exactly m (console_run xs c).console b.invariant.many;
    }
