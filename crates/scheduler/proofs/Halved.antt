-- Events by time, halved: the place of a new event, the first ones that are due, and when there is room for one more.
use Prim.Native.Nat.{ℕ, zero, suc, ◌≤◌, ◌<◌}
use native.Mathlib.Omega.{arith}
use mathlib.Core.Path.{◌≡◌, refl, sym, ap, ◌∙◌}
use mathlib.Core.Logic.{inl, inr}
use mathlib.Core.List.{List, [], ◌∷◌}
use mathlib.Core.Bool.{Bool, true, false, not, ◌&&◌, ◌||◌, cond, and-false, and-true, false≢true}
use lib.Dec.{leb}
use lib.ListN.{length, take, drop, get_or}
use borrow.Author.Tests.{leb-true, leb-false, lt-ltb, le-ltb, lt-leb}
use Rattle.std.specs.Prelude.{filter}
use Rattle.std.specs.List.{list_any, insert}
use Rattle.std.specs.List.Sorted.{IsNonDecreasingBy, IsPartitionPoint}
use Rattle.lists.specs.Member.{In}
use Rattle.lists.proofs.Filter.{length_filter}
use Rattle.scheduler.specs.declared.event.Event.{Event}
use Rattle.scheduler.specs.Queue.{later, before?, inserted, full}
use Rattle.scheduler.specs.Sorted.{Sorted}

at_in : {A : Type 0} (l : List A) (i : ℕ) (d : A) → i < length l → In (get_or l i d) l
at_in [] i d h = absurd (omega arith)
at_in (x ∷ l) zero d h = inl refl
at_in (x ∷ l) (suc i) d h = let k : i < length l = omega arith in inr (at_in l i d k)

pub sorted_up : (l : List Event) → Sorted l → IsNonDecreasingBy (λ (e : Event). e.time) l
sorted_up [] s i j d h k = absurd (omega arith)
sorted_up (x ∷ l) s zero zero d h k = omega arith
sorted_up (x ∷ l) s zero (suc j) d h k = let m : j < length l = omega arith in s.0 _ (at_in l j d m)
sorted_up (x ∷ l) s (suc i) zero d h k = absurd (omega arith)
sorted_up (x ∷ l) s (suc i) (suc j) d h k = let m : j < length l = omega arith in let n : i ≤ j = omega arith in sorted_up l s.1 i j d n m

-- before the first that is later, at the end if none is
pub placed : (e : Event) (l : List Event) (i : ℕ) → i ≤ length l
    → IsPartitionPoint (λ (f : Event). leb f.time e.time ≡ true) (λ (f : Event). leb f.time e.time ≡ false) l i → insert l i e ≡ inserted e l
placed e [] zero h p = refl
placed e [] (suc i) h p = absurd (omega arith)
placed e (f ∷ l) zero h p =
    let more : e.time < f.time = leb-false _ _ (p.1 zero f (omega arith) (omega arith)) in
    let on : later e f ≡ true = lt-ltb _ _ more in
    ap (λ b. before? b e f l (inserted e l)) (sym on)
placed e (f ∷ l) (suc i) h p =
    let less : f.time ≤ e.time = leb-true _ _ (p.0 zero f (omega arith) (omega arith)) in
    let off : later e f ≡ false = le-ltb _ _ less in
    let k : i ≤ length l = omega arith in
    ap (λ z. f ∷ z) (placed e l i k (λ j d a b. p.0 (suc j) d (omega arith) (omega arith), λ j d a b. p.1 (suc j) d (omega arith) (omega arith)))
    ∙ ap (λ b. before? b e f l (inserted e l)) (sym off)

-- rows that pass a test stand before the others
module _ {A : Type 0} (q : A → Bool) where
  abbrev pub Parted : List A → ℕ → Type 0
  Parted l i = IsPartitionPoint (λ x. q x ≡ true) (λ x. q x ≡ false) l i

  pub first_pass : (l : List A) (i : ℕ) → i ≤ length l → Parted l i → take i l ≡ filter q l
  first_pass [] zero h p = refl
  first_pass [] (suc i) h p = absurd (omega arith)
  first_pass (x ∷ l) zero h p =
      rw (p.1 zero x (omega arith) (omega arith))
      (first_pass l zero (omega arith) (λ j d a b. absurd (omega (arith, b)), λ j d a b. p.1 (suc j) d (omega arith) (omega arith)))
  first_pass (x ∷ l) (suc i) h p =
      let k : i ≤ length l = omega arith in
      rw (p.0 zero x (omega arith) (omega arith))
      (ap (λ z. x ∷ z) (first_pass l i k (λ j d a b. p.0 (suc j) d (omega arith) (omega arith), λ j d a b. p.1 (suc j) d (omega arith) (omega arith))))

  pub last_fail : (l : List A) (i : ℕ) → i ≤ length l → Parted l i → drop i l ≡ filter (λ x. not (q x)) l
  last_fail [] zero h p = refl
  last_fail [] (suc i) h p = absurd (omega arith)
  last_fail (x ∷ l) zero h p =
      rw (p.1 zero x (omega arith) (omega arith))
      (ap (λ z. x ∷ z) (last_fail l zero (omega arith) (λ j d a b. absurd (omega (arith, b)), λ j d a b. p.1 (suc j) d (omega arith) (omega arith))))
  last_fail (x ∷ l) (suc i) h p =
      let k : i ≤ length l = omega arith in
      rw (p.0 zero x (omega arith) (omega arith))
      (last_fail l i k (λ j d a b. p.0 (suc j) d (omega arith) (omega arith), λ j d a b. p.1 (suc j) d (omega arith) (omega arith)))

  -- rows go where one passes
  fewer : (l : List A) → list_any q l ≡ true → length (filter (λ x. not (q x)) l) < length l
  fewer [] e = absurd (false≢true e)
  fewer (x ∷ l) e = go (q x) e (fewer l)
    where
      rest : List A
      rest = filter (λ x. not (q x)) l

      go : (b : Bool) → (b || list_any q l) ≡ true → (list_any q l ≡ true → length rest < length l) → length (cond (not b) (x ∷ rest) rest) < length (x ∷ l)
      go true f ih = omega (arith, length_filter (λ x. not (q x)) l)
      go false f ih = omega (arith, ih f)

  none_goes : (l : List A) → list_any q l ≡ false → filter (λ x. not (q x)) l ≡ l
  none_goes [] e = refl
  none_goes (x ∷ l) e = go (q x) e (none_goes l)
    where
      rest : List A
      rest = filter (λ x. not (q x)) l

      go : (b : Bool) → (b || list_any q l) ≡ false → (list_any q l ≡ false → rest ≡ l) → cond (not b) (x ∷ rest) rest ≡ x ∷ l
      go true f ih = absurd (false≢true (sym f))
      go false f ih = ap (λ z. x ∷ z) (ih f)

-- the table is full once the replaced events went, exactly where it is full and none goes
pub full_left : (q : Event → Bool) (l : List Event) → length l ≤ 256 → full (filter (λ f. not (q f)) l) ≡ (leb 256 (length l) && not (list_any q l))
full_left q l h = go (list_any q l) refl
  where
    go : (b : Bool) → list_any q l ≡ b → full (filter (λ f. not (q f)) l) ≡ (leb 256 (length l) && not b)
    go true e = let less : length (filter (λ f. not (q f)) l) < 256 = omega (arith, h, fewer q l e) in lt-leb _ _ less ∙ sym (and-false (leb 256 (length l)))
    go false e = ap full (none_goes q l e) ∙ sym (and-true (leb 256 (length l)))
