-- "An event is a call of the bus whose voice it meets when taken, even if it was scheduled before that voice was let in." A story has an event
-- where it is taken. Whoever would rather have it where it was scheduled asks more: the pending events of a bus stand in the queue as if no
-- others had been scheduled, so agreement in the order of scheduling gives agreement in the order of taking.
use Prim.Native.Nat.{ℕ, ◌<◌}
use native.Mathlib.Omega.{arith}
use mathlib.Core.Path.{◌≡◌, refl, sym, ap, ◌∙◌}
use mathlib.Core.Logic.{inl, ⊎_elim}
use mathlib.Core.List.{List, [], ◌∷◌}
use mathlib.Core.Bool.{Bool, true, false, cond}
use borrow.Author.Tests.{ltb-true, lt-ltb}
use Rattle.lists.specs.Member.{In}
use Rattle.std.specs.Prelude.{filter}
use Rattle.lists.proofs.Filter.{in_filter}
use Rattle.scheduler.specs.declared.event.Event.{Event}
use Rattle.scheduler.specs.Queue.{later, before?, inserted, due, taken_before}
use Rattle.scheduler.proofs.Sorted.{Sorted}
use Rattle.isolation.proofs.Part.{filter_swap}

first : (e : Event) (q : List Event) → ((f : Event) → In f q → later e f ≡ true) → inserted e q ≡ e ∷ q
first e [] h = refl
first e (f ∷ q) h = ap (λ c. before? c e f q (inserted e q)) (h f (inl refl))

-- the events that pass P, after one more was scheduled
pub own_inserted : (P : Event → Bool) (e : Event) (q : List Event) → Sorted q → filter P (inserted e q) ≡ cond (P e) (inserted e (filter P q)) (filter P q)
own_inserted P e [] s = go (P e)
  where
    go : (c : Bool) → cond c (e ∷ []) [] ≡ cond c (e ∷ []) []
    go true = refl
    go false = refl
own_inserted P e (f ∷ q) s = go (later e f) refl (P e) (P f) refl (own_inserted P e q s.1)
  where
    go : (c : Bool) → later e f ≡ c → (d g : Bool) → P f ≡ g → filter P (inserted e q) ≡ cond (P e) (inserted e (filter P q)) (filter P q)
        → filter P (before? c e f q (inserted e q)) ≡ cond (P e) (inserted e (cond (P f) (f ∷ (filter P q)) (filter P q))) (cond (P f) (f ∷ (filter P q)) (filter P q))
    go true t d g p ih = at (P e)
      where
        all : (x : Event) → In x (cond (P f) (f ∷ (filter P q)) (filter P q)) → later e x ≡ true
        all x i =
            let h : e.time < f.time = ltb-true _ _ t in
            let r = in_filter P (f ∷ q) x i in
            ⊎_elim (λ z. ap (later e) z ∙ t) (λ j. let k : e.time < x.time = omega (arith, h, s.0 x j) in lt-ltb _ _ k) r.0

        at : (c : Bool) → cond c (e ∷ (cond (P f) (f ∷ (filter P q)) (filter P q))) (cond (P f) (f ∷ (filter P q)) (filter P q)) ≡ cond c (inserted e (cond (P f) (f ∷ (filter P q)) (filter P q))) (cond (P f) (f ∷ (filter P q)) (filter P q))
        at true = sym (first e (cond (P f) (f ∷ (filter P q)) (filter P q)) all)
        at false = refl
    go false t d g p ih = ap (λ l. cond (P f) (f ∷ l) l) ih ∙ at (P e) (P f)
      where
        at : (c g : Bool) → cond g (f ∷ (cond c (inserted e (filter P q)) (filter P q))) (cond c (inserted e (filter P q)) (filter P q)) ≡ cond c (inserted e (cond g (f ∷ (filter P q)) (filter P q))) (cond g (f ∷ (filter P q)) (filter P q))
        at true true = sym (ap (λ b. before? b e f (filter P q) (inserted e (filter P q))) t)
        at true false = refl
        at false true = refl
        at false false = refl

-- and after a deadline took its events
pub own_taken : (P : Event → Bool) (deadline : ℕ) (q : List Event) → filter P (taken_before deadline q) ≡ taken_before deadline (filter P q)
own_taken P deadline q = filter_swap P (due deadline) q
