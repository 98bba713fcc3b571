-- What 01 says of an ordered queue follows from the definitions of `Queue`: scheduling keeps it ordered and puts an event
-- after all events that are not later; a deadline takes the first ones; an event at 2^64 - 1 is never taken.
use Prim.Native.Nat.{ℕ, suc, ◌≤◌, ◌<◌}
use native.Mathlib.Omega.{arith}
use mathlib.Core.Path.{◌≡◌, refl, ap}
use mathlib.Core.Logic.{◌⊎◌, inl, inr, ⊎_elim}
use mathlib.Core.List.{List, [], ◌∷◌, ◌++◌}
use mathlib.Core.Bool.{Bool, true, false, not}
use lib.ListN.{length}
use lib.Dec.{ltb}
use borrow.Author.Tests.{ltb-true, ltb-false, lt-ltb, le-ltb}
use Rattle.lists.specs.Member.{In}
use Rattle.std.specs.Prelude.{cond, filter}
use Rattle.lists.proofs.Filter.{in_filter, filter_all, filter_none}
use Rattle.scheduler.specs.declared.event.Event.{Event}
pub use Rattle.scheduler.specs.Sorted.{Sorted}
use Rattle.scheduler.specs.Queue.{later, before?, inserted, due, taken_before, left_after}

pub in_inserted : (e : Event) (l : List Event) (x : Event) → In x (inserted e l) → (x ≡ e) ⊎ In x l
in_inserted e [] x (inl p) = inl p
in_inserted e [] x (inr i) = absurd i
in_inserted e (f ∷ l) x i = go (later e f) i (in_inserted e l x)
  where
    go : (b : Bool) → In x (before? b e f l (inserted e l)) → (In x (inserted e l) → (x ≡ e) ⊎ In x l) → (x ≡ e) ⊎ In x (f ∷ l)
    go true (inl p) ih = inl p
    go true (inr j) ih = inr j
    go false (inl p) ih = inr (inl p)
    go false (inr j) ih = ⊎_elim inl (λ k. inr (inr k)) (ih j)

-- scheduling keeps a queue ordered
pub inserted_sorted : (e : Event) (l : List Event) → Sorted l → Sorted (inserted e l)
inserted_sorted e [] s = (λ f i. absurd i, tt)
inserted_sorted e (f ∷ l) s = go (later e f) refl (inserted_sorted e l s.1)
  where
    go : (b : Bool) → later e f ≡ b → Sorted (inserted e l) → Sorted (before? b e f l (inserted e l))
    go true t ih =
        let h : e.time < f.time = ltb-true _ _ t in
        let later : (x : Event) → In x (f ∷ l) → e.time ≤ x.time =
        (λ x i. ⊎_elim (λ p. let q : x.time ≡ f.time = ap (λ y. y.time) p in omega arith) (λ j. omega (arith, s.0 x j)) i) in
        (later, s)
    go false t ih =
        let h : f.time ≤ e.time = ltb-false _ _ t in
        (λ x i. ⊎_elim (λ p. let q : x.time ≡ e.time = ap (λ y. y.time) p in omega arith) (λ j. s.0 x j) (in_inserted e l x i), ih)

-- the events of an ordered queue that are not later than e, then e, then those that are later: "equal times by insertion"
pub inserted_place : (e : Event) (l : List Event) → Sorted l → inserted e l ≡ filter (λ f. not (later e f)) l ++ (e ∷ filter (later e) l)
inserted_place e [] s = refl
inserted_place e (f ∷ l) s = go (later e f) refl (inserted_place e l s.1)
  where
    go : (b : Bool) → later e f ≡ b → inserted e l ≡ filter (λ f. not (later e f)) l ++ (e ∷ filter (later e) l)
        → before? b e f l (inserted e l) ≡ cond (not b) (f ∷ (filter (λ f. not (later e f)) l)) (filter (λ f. not (later e f)) l) ++ (e ∷ cond b (f ∷ (filter (later e) l)) (filter (later e) l))
    go true t ih =
        let h : e.time < f.time = ltb-true _ _ t in
        let on : (x : Event) → In x l → later e x ≡ true = (λ x i. let k : e.time < x.time = omega (arith, s.0 x i) in lt-ltb _ _ k) in
        let none : filter (λ x. not (later e x)) l ≡ [] = filter_none (λ x. not (later e x)) l (λ x i. ap not (on x i)) in
        rw (none, filter_all (later e) l on)
    go false t ih = ap (λ z. f ∷ z) ih

-- what is left out of an ordered queue leaves it ordered
pub filter_sorted : (t : Event → Bool) (l : List Event) → Sorted l → Sorted (filter t l)
filter_sorted t [] s = tt
filter_sorted t (e ∷ l) s = go (t e) (filter_sorted t l s.1)
  where
    go : (b : Bool) → Sorted (filter t l) → Sorted (cond b (e ∷ (filter t l)) (filter t l))
    go true ih = (λ f i. s.0 f (in_filter t l f i).0, ih)
    go false ih = ih

-- of an ordered queue a deadline takes the first ones, and leaves the others
pub drained_prefix : (deadline : ℕ) (l : List Event) → Sorted l → l ≡ taken_before deadline l ++ left_after deadline l
drained_prefix deadline [] s = refl
drained_prefix deadline (e ∷ l) s = go (due deadline e) refl (drained_prefix deadline l s.1)
  where
    go : (b : Bool) → ltb e.time deadline ≡ b → l ≡ taken_before deadline l ++ left_after deadline l
        → e ∷ l ≡ cond b (e ∷ (taken_before deadline l)) (taken_before deadline l) ++ cond (not b) (e ∷ (left_after deadline l)) (left_after deadline l)
    go true t ih = ap (λ z. e ∷ z) ih
    go false t ih =
        let h : deadline ≤ e.time = ltb-false _ _ t in
        let off : (f : Event) → In f l → due deadline f ≡ false = (λ f i. let k : deadline ≤ f.time = omega (arith, s.0 f i) in le-ltb _ _ k) in
        let none : taken_before deadline l ≡ [] = filter_none (due deadline) l off in
        let all : left_after deadline l ≡ l = filter_all (λ f. not (due deadline f)) l (λ f i. ap not (off f i)) in
        rw (none, all)

-- a deadline is at most 2^64 - 1, so an event at 2^64 - 1 is never taken
pub never_due : (deadline : ℕ) (e : Event) → deadline ≤ 18446744073709551615 → e.time ≡ 18446744073709551615 → due deadline e ≡ false
never_due deadline e h k = let l : deadline ≤ e.time = omega arith in le-ltb _ _ l

-- the queue grows by one
pub length_inserted : (e : Event) (l : List Event) → length (inserted e l) ≡ suc (length l)
length_inserted e [] = refl
length_inserted e (f ∷ l) = go (later e f) (length_inserted e l)
  where
    go : (b : Bool) → length (inserted e l) ≡ suc (length l) → length (before? b e f l (inserted e l)) ≡ suc (suc (length l))
    go true ih = refl
    go false ih = ap suc ih
