-- The rule of every stretch (`BusiestStretch`; SPEC 19, 21.7): that it names one number and one sample, and that what
-- the walk knows at the end and what the definition computes are these.
use Prim.Native.Nat.{ℕ, zero, suc, ◌+◌, ◌≤◌, ◌<◌}
use native.Mathlib.Omega.{arith}
use mathlib.Core.Path.{◌≡◌, refl, sym, ap, ◌∙◌}
use mathlib.Core.Logic.{inl, inr}
use mathlib.Core.List.{List, [], ◌∷◌}
use Rattle.std.specs.Prelude.{Option, None, Some, find}
use mathlib.Core.Bool.{Bool, true, false, false≢true}
use lib.Dec.{eqb}
use lib.ListN.{length}
use borrow.Author.Tests.{eq-eqb, eqb-true}
use Rattle.lists.specs.Member.{In}
use Rattle.lists.proofs.Member.{some_inj}
use Rattle.lists.proofs.Find.{find_in, find_none}
use Rattle.lists.proofs.Count.{count_none, count_weaker}
use Rattle.busiest.specs.Stretch.{within, inside, largest, first_of, BusiestStretch}
use Rattle.busiest.proofs.Rises.{Rises, count_some, find_least}
use Rattle.busiest.proofs.SoFar.{within_from, within_to, within_on, SoFar}

-- it names one number and one sample
pub only : (w : ℕ) (xs : List ℕ) (n x m y : ℕ) → BusiestStretch w xs n x → BusiestStretch w xs m y → (n ≡ m) × (x ≡ y)
only w xs n x m y s t =
    let a = s.no_more t.start in
    let b = t.no_more s.start in
    let c = s.as_many in
    let d = t.as_many in
    let e : n ≡ m = omega arith in
    let f = s.earliest t.start (d ∙ sym e) in
    let g = t.earliest s.start (c ∙ e) in
    let h : s.start ≡ t.start = omega arith in
    (e, some_inj (sym s.first ∙ ap (λ a. find (within w a) xs) h ∙ t.first))

-- ---- the least number that passes a test

module _ (q : ℕ → Bool) where
  abbrev Least : Type 0
  Least = (a : ℕ) × (q a ≡ true) × ((c : ℕ) → q c ≡ true → a ≤ c)

  least_from : (k a : ℕ) → ((c : ℕ) → q c ≡ true → a ≤ c) → q (a + k) ≡ true → Least
  least_from zero a low t = let same : a + 0 ≡ a = omega arith in (a, ap q (sym same) ∙ t, low)
  least_from (suc k) a low t = go (q a) refl (least_from k (suc a))
    where
      go : (b : Bool) → q a ≡ b → (((c : ℕ) → q c ≡ true → suc a ≤ c) → q (suc a + k) ≡ true → Least) → Least
      go true e ih = (a, e, low)
      go false e ih =
          let same : a + suc k ≡ suc a + k = omega arith in
          let other : (c : ℕ) → a ≡ c → q c ≡ true → ⊥ = (λ c p u. false≢true (sym e ∙ ap q p ∙ u)) in
          ih (λ c u. let h = low c u in let ne : a ≡ c → ⊥ = (λ p. other c p u) in omega (arith, ne)) (ap q (sym same) ∙ t)

  least : (b : ℕ) → q b ≡ true → Least
  least b t = let same : 0 + b ≡ b = omega arith in least_from b 0 (λ c u. omega arith) (ap q same ∙ t)

-- ---- what the walk knows at the end is that

module _ (w : ℕ) (xs : List ℕ) (n x : ℕ) (wide : 0 < w) (rises : Rises 0 xs) (some-record : 0 < length xs) (so_far : SoFar w xs n x) where
  self : (a : ℕ) → within w a a ≡ true
  self a = within_on w a a (omega arith) (omega arith)

  met : In x xs
  met = so_far.met some-record

  pub some_inside : 0 < n
  some_inside = let c = count_some (within w x) xs x met (self x) in let e = so_far.as_many in omega arith

  -- a record whose own stretch holds n is not before x
  not_before : (r : ℕ) → In r xs → inside w r xs ≡ n → x ≤ r
  not_before r i e = let f : r < x → ⊥ = (λ less. let c = so_far.earlier r i less in omega arith) in omega (arith, f)

  -- the first record of the earliest stretch
  first_is : (a : ℕ) → inside w a xs ≡ n → a ≤ x → (o : Option ℕ) → find (within w a) xs ≡ o → o ≡ Some x
  first_is a e le None f =
      let z = count_none (within w a) xs (λ z i. find_none (within w a) xs z f i) in
      let p = some_inside in
      absurd (omega arith)
  first_is a e le (Some r) f =
      let i = find_in (within w a) xs r f in
      let from = within_from w a r i.1 in
      let to = within_to w a r i.1 in
      let holds : (z : ℕ) → In z xs → within w a z ≡ true → within w r z ≡ true = (λ z j t.
      let lo = find_least (within w a) 0 xs rises z j t r f in
      let hi = within_to w a z t in
      within_on w r z lo (omega arith)) in
      let more = count_weaker (within w a) (within w r) xs holds in
      let most = so_far.no_more r in
      let late = not_before r i.0 (omega arith) in
      let on : within w a x ≡ true = within_on w a x le (omega arith) in
      let early = find_least (within w a) 0 xs rises x met on r f in
      let same : r ≡ x = omega arith in
      ap Some same

  pub so_far_stretch : BusiestStretch w xs n x
  so_far_stretch =
      let l = least (λ a. eqb (inside w a xs) n) x (eq-eqb (inside w x xs) n so_far.as_many) in
      let holds = eqb-true (inside w l.0 xs) n l.1 in
      let low = l.2 x (eq-eqb (inside w x xs) n so_far.as_many) in
      record {
        start = l.0;
        no_more = so_far.no_more;
        as_many = holds;
        earliest = λ a e. l.2 a (eq-eqb (inside w a xs) n e);
        first = first_is l.0 holds low (find (within w l.0) xs) refl;
      }

  -- ---- and what the definition gives

  largest_most : (l : List ℕ) → largest w xs l ≤ n
  largest_most [] = omega arith
  largest_most (a ∷ l) = let h = so_far.no_more a in let k = largest_most l in omega arith

  largest_least : (l : List ℕ) (a : ℕ) → In a l → inside w a xs ≤ largest w xs l
  largest_least [] a i = absurd i
  largest_least (b ∷ l) a (inl p) = let e : inside w a xs ≡ inside w b xs = ap (λ c. inside w c xs) p in omega arith
  largest_least (b ∷ l) a (inr i) = let k = largest_least l a i in omega arith

  pub so_far_largest : largest w xs xs ≡ n
  so_far_largest = let h = largest_most xs in let k = largest_least xs x met in let e = so_far.as_many in omega arith

  pub so_far_first : first_of w xs ≡ Some x
  so_far_first = ap (λ m. find (λ a. eqb (inside w a xs) m) xs) so_far_largest ∙ go (find q xs) refl
    where
      q : ℕ → Bool
      q a = eqb (inside w a xs) n

      on : q x ≡ true
      on = eq-eqb (inside w x xs) n so_far.as_many

      go : (o : Option ℕ) → find q xs ≡ o → o ≡ Some x
      go None e = absurd (false≢true (sym (find_none q xs x e met) ∙ on))
      go (Some r) e =
          let i = find_in q xs r e in
          let late = not_before r i.0 (eqb-true (inside w r xs) n i.1) in
          let early = find_least q 0 xs rises x met on r e in
          let same : r ≡ x = omega arith in
          ap Some same
