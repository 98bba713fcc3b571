-- The loop that closes gaps, and what its clause says of the rows that the words stand for.
use Prim.Native.Nat.{ℕ, zero, suc, ◌/◌, ◌≤◌, min}
use native.Mathlib.Omega.{arith}
use mathlib.Core.Path.{◌≡◌, refl, sym, ap, ◌∙◌}
use mathlib.Core.List.{List, [], ◌∷◌, map}
use mathlib.Core.Bool.{Bool, true, false, false≢true, not, cond, ◌&&◌}
use denote.Ref.{Bor}
use lib.ListN.{length, take, get_or, length-map}
use lib.Seq.{take_all, take-take}
use Rattle.std.specs.Prelude.{Option, None, Some, filter, position, unwrap_or}
use Rattle.std.specs.List.{list_all}
use Rattle.std.proofs.lemmas.List.{take_min, take-map}
use Rattle.std.proofs.lemmas.List.Folds.{list_all-map}
use Rattle.lists.proofs.Filter.{filter_map}
use Rattle.words.specs.Rows.{rows, cuts}
use Rattle.words.specs.Place.{place_of, Holds, Tells}
use Rattle.words.proofs.Rows.{row_is, rows_cuts}
use Rattle.words.proofs.Place.{counted}
use Rattle.words.proofs.InWords.{ClosingIn}
use Rattle.words.proofs.FirstRow.{at_place, no_place}

module _ {A : Type 0} (q : A → Bool) where
  -- where all pass, all are left
  all_left : (l : List A) → list_all q l ≡ true → filter q l ≡ l
  all_left [] h = refl
  all_left (x ∷ l) h = go (q x) h (all_left l)
    where
      go : (b : Bool) → (b && list_all q l) ≡ true → (list_all q l ≡ true → filter q l ≡ l) → cond b (x ∷ filter q l) (filter q l) ≡ x ∷ l
      go true h ih = ap (λ m. x ∷ m) (ih h)
      go false h ih = absurd (false≢true h)

  -- those before the first that goes stay
  place_stay : (l : List A) → list_all (λ x. not (q x)) (take (place_of q l) l) ≡ true
  unfolding place_of
  place_stay [] = refl
  place_stay (x ∷ l) = go (q x) refl (place_stay l)
    where
      go : (b : Bool) → q x ≡ b → list_all (λ y. not (q y)) (take (place_of q l) l) ≡ true → list_all (λ y. not (q y)) (take (cond b zero (suc (place_of q l))) (x ∷ l)) ≡ true
      go true e ih = refl
      go false e ih = ap (λ b. not b && list_all (λ y. not (q y)) (take (place_of q l) l)) e ∙ ih

  -- so where the first that goes was looked for, those before it stay, or all of them
  pub found_stay : (l : List A) (r : Option ℕ) (k : ℕ) → r ≡ position q l → length l ≤ k → list_all (λ x. not (q x)) (take (unwrap_or r k) l) ≡ true
  found_stay l None k e h =
      let past : length l ≤ place_of q l = no_place q l (sym e) in
      ap (list_all (λ x. not (q x))) (take_all k l h ∙ sym (take_all (place_of q l) l past)) ∙ place_stay l
  found_stay l (Some p) k e h = ap (λ j. list_all (λ x. not (q x)) (take j l)) (at_place q l p (sym e)).0 ∙ place_stay l

-- the loop begins behind rows that stay
module _ {A : Type 0} (w : ℕ) (of : List ℕ → A) (q : A → Bool) (c : List ℕ) (count n : ℕ) (e : n ≡ min count (length c / w)) where
  pub close_begun : (from first : ℕ) → first ≡ min from n → list_all q (take from (take count (rows w of c))) ≡ true → ClosingIn w of q c c n first first
  close_begun from first at stay =
      let l = take count (rows w of c) in
      let low : first ≤ n = omega arith in
      let below : first ≤ count = omega arith in
      let same : take first l ≡ take from l = ap (λ k. take k l) (at ∙ ap (min from) (sym (counted w of c count n e))) ∙ take_min from l in
      let part : take first l ≡ take first (rows w of c) = take-take first count (rows w of c) below in
      let all : filter q (take from l) ≡ take from l = all_left q (take from l) stay in
      (low, refl, record { low = omega arith; long = refl; front = sym part ∙ same ∙ sym all ∙ ap (filter q) (sym same ∙ part); left = refl })

-- what is said of the words of rows is said of what they stand for
module _ {A : Type 0} (w : ℕ) (of : List ℕ → A) (q : A → Bool) (old new : List ℕ) (r from count : ℕ) where
  pub closed_rows : (post : Bor (List ℕ) → ℕ → Bool → Type 0)
      → ((p : List ℕ → Bool) → Tells w post p → list_all p (take from (take count (cuts w old))) ≡ true → Holds (cuts w new) r (filter p (take count (cuts w old))))
      → ((t : Bor (List ℕ)) (i : ℕ) (b : Bool) → post t i b → b ≡ q (get_or (rows w of t.now) i (of [])))
      → list_all q (take from (take count (rows w of old))) ≡ true
      → Holds (rows w of new) r (filter q (take count (rows w of old)))
  closed_rows post holds tells stay =
      let p : List ℕ → Bool = λ ws. q (of ws) in
      let l = take count (cuts w old) in
      let typed : take count (rows w of old) ≡ map of l = ap (take count) (rows_cuts w of old) ∙ take-map of count (cuts w old) in
      let first : list_all p (take from l) ≡ true = sym (ap (list_all q) (ap (take from) typed ∙ take-map of from l) ∙ list_all-map q of (take from l)) ∙ stay in
      let kept = holds p (λ t i b h. tells t i b h ∙ ap q (row_is w of t.now i)) first in
      let same : map of (filter p l) ≡ filter q (take count (rows w of old)) = sym (ap (filter q) typed ∙ filter_map of q p (λ x. refl) l) in
      record {
        is = ap (take r) (rows_cuts w of new) ∙ take-map of r (cuts w new) ∙ ap (map of) kept.is ∙ same;
        many = kept.many ∙ sym (length-map (filter p l) of) ∙ ap length same;
      }
