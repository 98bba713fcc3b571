-- How the two queues go on: a deadline takes of both what it takes of one, and an event put into both leaves A's a thinned B's.
use Prim.Native.Nat.{ℕ, ◌<◌}
use native.Mathlib.Omega.{arith}
use mathlib.Core.Path.{◌≡◌, refl, sym, ap, ◌∙◌, subst}
use mathlib.Core.Logic.{◌⊎◌, inl, inr, ⊎_elim}
use mathlib.Core.List.{List, [], ◌∷◌}
use mathlib.Core.Bool.{Bool, true, false, not}
use lib.Dec.{eqb, ltb}
use borrow.Author.Tests.{eqb-true, ltb-true, lt-ltb, ne_eqb}
use Rattle.scheduler.specs.declared.event.Event.{Event}
use Rattle.lists.specs.Member.{In}
use Rattle.lists.proofs.Member.{and_left}
use Rattle.std.specs.Prelude.{cond, filter}
use Rattle.lists.proofs.Filter.{filter_all}
use Rattle.scheduler.specs.Queue.{later, before?, inserted, taken_before, left_after, replacing}
use Rattle.scheduler.proofs.Sorted.{Sorted}
use Rattle.scheduler.specs.Replace.{replaces, thinned}

-- ---- A's queue is B's without events that a later one replaces
abbrev pub Superseded : Event → List Event → Type 0
Superseded e [] = ⊥
Superseded e (f ∷ q) = (replaces f e ≡ true) ⊎ Superseded e q

abbrev pub Thinned : List Event → List Event → Type 0
Thinned p [] = p ≡ []
Thinned p (e ∷ q) = ((r : List Event) × (p ≡ e ∷ r) × Thinned r q) ⊎ (Superseded e q × Thinned p q)

-- an event and the one that replaces it have one time
pub same_time : (e f : Event) → replaces e f ≡ true → e.time ≡ f.time
same_time e f h = eqb-true _ _ (and_left (eqb e.time f.time) _ h)

-- ---- what a test of the time keeps
module _ (t : ℕ → Bool) where
  abbrev no_overflow : Event → Bool
  no_overflow e = t e.time

  superseded_filter : (e : Event) (q : List Event) → t e.time ≡ true → Superseded e q → Superseded e (filter no_overflow q)
  superseded_filter e [] h s = s
  superseded_filter e (f ∷ q) h (inl r) =
      let k : t f.time ≡ true = ap t (same_time f e r) ∙ h in
      rw k (inl r)
  superseded_filter e (f ∷ q) h (inr s) = go (t f.time) (superseded_filter e q h s)
    where
      go : (b : Bool) → Superseded e (filter no_overflow q) → Superseded e (cond b (f ∷ (filter no_overflow q)) (filter no_overflow q))
      go true i = inr i
      go false i = i

  pub thinned_filter : (q p : List Event) → Thinned p q → Thinned (filter no_overflow p) (filter no_overflow q)
  thinned_filter [] p h = ap (filter no_overflow) h
  thinned_filter (e ∷ q) p (inl h) =
      subst (λ z. Thinned (filter no_overflow z) (filter no_overflow (e ∷ q))) (sym h.1) (go (t e.time) (thinned_filter q h.0 h.2))
    where
      go : (b : Bool) → Thinned (filter no_overflow h.0) (filter no_overflow q) → Thinned (cond b (e ∷ (filter no_overflow h.0)) (filter no_overflow h.0)) (cond b (e ∷ (filter no_overflow q)) (filter no_overflow q))
      go true i = inl (filter no_overflow h.0, refl, i)
      go false i = i
  thinned_filter (e ∷ q) p (inr h) = go (t e.time) refl (thinned_filter q p h.1)
    where
      go : (b : Bool) → t e.time ≡ b → Thinned (filter no_overflow p) (filter no_overflow q) → Thinned (filter no_overflow p) (cond b (e ∷ (filter no_overflow q)) (filter no_overflow q))
      go true k i = inr (superseded_filter e q k h.0, i)
      go false k i = i

pub thinned_taken : (deadline : ℕ) (p q : List Event) → Thinned p q → Thinned (taken_before deadline p) (taken_before deadline q)
thinned_taken deadline p q h = thinned_filter (λ t. ltb t deadline) q p h

pub thinned_left : (deadline : ℕ) (p q : List Event) → Thinned p q → Thinned (left_after deadline p) (left_after deadline q)
thinned_left deadline p q h = thinned_filter (λ t. not (ltb t deadline)) q p h

-- ---- a new event
pub in_thinned : (q p : List Event) → Thinned p q → (x : Event) → In x p → In x q
in_thinned [] p h x i = absurd (subst (In x) h i)
in_thinned (e ∷ q) p (inl h) x i = ⊎_elim inl (λ j. inr (in_thinned q h.0 h.2 x j)) (subst (In x) h.1 i)
in_thinned (e ∷ q) p (inr h) x i = inr (in_thinned q p h.1 x i)

superseded_inserted : (e n : Event) (q : List Event) → Superseded e q → Superseded e (inserted n q)
superseded_inserted e n [] s = absurd s
superseded_inserted e n (f ∷ q) s = go (later n f) s (superseded_inserted e n q)
  where
    go : (b : Bool) → Superseded e (f ∷ q) → (Superseded e q → Superseded e (inserted n q)) → Superseded e (before? b n f q (inserted n q))
    go true s ih = inr s
    go false (inl r) ih = inl r
    go false (inr s) ih = inr (ih s)

superseded_new : (e n : Event) (q : List Event) → replaces n e ≡ true → Superseded e (inserted n q)
superseded_new e n [] r = inl r
superseded_new e n (f ∷ q) r = go (later n f) (superseded_new e n q r)
  where
    go : (b : Bool) → Superseded e (inserted n q) → Superseded e (before? b n f q (inserted n q))
    go true ih = inl r
    go false ih = inr ih

module _ (n : Event) where
  -- a later event is not replaced, and stands behind
  later_stays : (f : Event) → n.time < f.time → replaces n f ≡ false
  later_stays f h = let off : eqb n.time f.time ≡ false = ne_eqb n.time f.time (λ e. omega (arith, e, h)) in rw off

  thinned_later : (p : List Event) → ((x : Event) → In x p → n.time < x.time) → thinned n p ≡ p
  thinned_later p h = filter_all (λ f. not (replaces n f)) p (λ x i. ap not (later_stays x (h x i)))

  inserted_later : (p : List Event) → ((x : Event) → In x p → n.time < x.time) → inserted n p ≡ n ∷ p
  inserted_later [] h = refl
  inserted_later (f ∷ p) h = ap (λ b. before? b n f p (inserted n p)) (lt-ltb _ _ (h f (inl refl)))

  pub thinned_schedule : (q p : List Event) → Sorted q → Thinned p q → Thinned (replacing n p) (inserted n q)
  thinned_schedule [] p s h = subst (λ z. Thinned (replacing n z) (n ∷ [])) (sym h) (inl ([], refl, refl))
  thinned_schedule (e ∷ q) p s h = go (later n e) refl h (λ r. thinned_schedule q r s.1)
    where
      behind : later n e ≡ true → (x : Event) → In x q → n.time < x.time
      behind l x i = let k : n.time < e.time = ltb-true _ _ l in omega (arith, k, s.0 x i)

      -- in front of e and all that follows
      front : (p : List Event) → Thinned p (e ∷ q) → later n e ≡ true → Thinned (replacing n p) (n ∷ e ∷ q)
      front p h l =
          let all : (x : Event) → In x p → n.time < x.time =
          (λ x i. ⊎_elim (λ z. let k : n.time < e.time = ltb-true _ _ l in let y : x.time ≡ e.time = ap (λ (u : Event). u.time) z in omega arith) (behind l x) (in_thinned (e ∷ q) p h x i)) in
          inl (p, ap (inserted n) (thinned_later p all) ∙ inserted_later p all, h)

      -- behind e, which stays or is replaced
      after : (r : List Event) → later n e ≡ false → (b : Bool) → replaces n e ≡ b → Thinned (replacing n r) (inserted n q)
          → Thinned (inserted n (cond (not b) (e ∷ (thinned n r)) (thinned n r))) (e ∷ inserted n q)
      after r l true t ih = inr (superseded_new e n q t, ih)
      after r l false t ih = inl (replacing n r, ap (λ b. before? b n e (thinned n r) (replacing n r)) l, ih)

      go : (b : Bool) → later n e ≡ b → Thinned p (e ∷ q) → ((r : List Event) → Thinned r q → Thinned (replacing n r) (inserted n q))
          → Thinned (replacing n p) (before? b n e q (inserted n q))
      go true l h ih = front p h l
      go false l (inl h) ih = subst (λ z. Thinned (replacing n z) (e ∷ inserted n q)) (sym h.1) (after h.0 l (replaces n e) refl (ih h.0 h.2))
      go false l (inr h) ih = inr (superseded_inserted e n q h.0, ih p h.1)
