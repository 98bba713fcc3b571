-- A search over the numbers of the rows is a search of the rows: what `find` over a range says, said of the first row that passes.
use Prim.Native.Nat.{ℕ, zero, suc, ◌+◌, ◌/◌, ◌≤◌, ◌<◌, min}
use native.Mathlib.Omega.{arith}
use mathlib.Core.Path.{◌≡◌, refl, sym, ap, ◌∙◌}
use mathlib.Core.List.{List, [], ◌∷◌, map}
use mathlib.Core.Bool.{Bool, true, false, cond}
use denote.Ref.{Bor}
use lib.Dec.{ltb}
use lib.ListN.{length, take, get_or, length-map}
use lib.Seq.{get_or-take}
use borrow.Author.Tests.{ltb-true, ltb-false, lt-ltb, le-ltb}
use Rattle.std.specs.declared.ops.Range.{Range}
use Rattle.std.specs.Iterator.{YieldsThen}
use Rattle.std.specs.List.{FoldsTo}
use Rattle.std.specs.Fn.{CalledAt, Mut}
use Rattle.std.proofs.iter.Yields.{nat_range_steps}
use Rattle.std.specs.Prelude.{⊤, Option, None, Some, MatchOption, find, position, option_map, is_some}
use Rattle.std.specs.List.{position_or_len}
use Rattle.std.proofs.lemmas.Iterator.{first_from_Range}
use Rattle.std.proofs.lemmas.List.{take-map}
use Rattle.std.proofs.lemmas.List.Sums.{position_or_len_is}
use Rattle.std.proofs.lemmas.List.Recursion.{is_position_or_len}
use Rattle.lists.proofs.Member.{some_inj, none_some}
use Rattle.words.specs.Rows.{rows, cuts}
use Rattle.words.specs.Place.{place_of, Tells}
use Rattle.words.proofs.Rows.{row_is, rows_cuts}
use Rattle.words.proofs.Place.{counted, place_found, place_lost, found_in}

-- the place of the first that passes, as `place_of` has it
module _ {A : Type 0} (q : A → Bool) (l : List A) where
  same_place : place_of q l ≡ position_or_len q l
  unfolding place_of
  same_place =
      is_position_or_len (place_of q) q refl (λ x xs. let one : suc (place_of q xs) ≡ 1 + place_of q xs = omega arith in ap (λ k. cond (q x) 0 k) one) l

  pub at_place : (p : ℕ) → position q l ≡ Some p → (p ≡ place_of q l) × (p < length l)
  at_place p e = go (ltb (position_or_len q l) (length l)) refl e
    where
      go : (b : Bool) → ltb (position_or_len q l) (length l) ≡ b → cond b (Some (position_or_len q l)) None ≡ Some p → (p ≡ place_of q l) × (p < length l)
      go true t h = let same : position_or_len q l ≡ p = some_inj h in (sym same ∙ sym same_place, omega (arith, same, ltb-true _ _ t))
      go false t h = absurd (none_some h)

  pub no_place : position q l ≡ None → length l ≤ place_of q l
  no_place e = go (ltb (position_or_len q l) (length l)) refl e
    where
      go : (b : Bool) → ltb (position_or_len q l) (length l) ≡ b → cond b (Some (position_or_len q l)) None ≡ None → length l ≤ place_of q l
      go true t h = absurd (none_some (sym h))
      go false t h = omega (arith, same_place, ltb-false _ _ t)

  pub none_placed : position q l ≡ None → find q l ≡ None
  none_placed e = place_lost q l (no_place e)

  -- whether there is one
  pub some_placed : (d : A) (r : Option ℕ) → r ≡ position q l → is_some r ≡ is_some (find q l)
  some_placed d None e = sym (ap is_some (none_placed (sym e)))
  some_placed d (Some p) e =
      let at = at_place p (sym e) in
      let low : place_of q l < length l = omega (arith, at.0, at.1) in
      sym (ap is_some (place_found q d l low))

-- which of the first n rows passes first, if one does
module _ {A : Type 0} (w : ℕ) (of : List ℕ → A) (q : A → Bool) (c : List ℕ) (n : ℕ) where
  abbrev pub row : ℕ → A
  row i = get_or (rows w of c) i (of [])

  abbrev pub IsFirst : Option ℕ → Type 0
  IsFirst r = MatchOption r ((k : ℕ) → 0 ≤ k → k < n → q (row k) ≡ false) (λ i. (0 ≤ i) × (i < n) × (q (row i) ≡ true) × ((k : ℕ) → 0 ≤ k → k < i → q (row k) ≡ false))

  -- what a closure tells of the numbers that it is called with, it tells of the rows
  pub is_first : {F : Type 0} {g : Mut F (Bor ℕ × Unit {0}) Bool} (u : Range ℕ) (f : F) (r : Option ℕ)
      → (xs : List ℕ) × (j : F) × YieldsThen nat_range_steps (record { start = 0; end = n }) xs r u × FoldsTo (λ p x s. CalledAt g p x false s) f xs j × MatchOption r ⊤ (λ x. (h : F) × CalledAt g j x true h)
      → ((x : ℕ) (s : F) → CalledAt g f x true s → q (row x) ≡ true) → ((x : ℕ) (s : F) → CalledAt g f x false s → (s ≡ f) × (q (row x) ≡ false))
      → IsFirst r
  is_first u f r ran on off = first_from_Range (record { start = 0; end = n }) u f r (λ i. q (row i) ≡ true) (λ i. q (row i) ≡ false) ran on off

  -- of the rows that a count stands for it is the first
  module _ (count : ℕ) (e : n ≡ min count (length c / w)) where
    abbrev l : List A
    l = take count (rows w of c)

    read : (i : ℕ) → i < n → get_or l i (of []) ≡ row i
    read i h = get_or-take count (rows w of c) i (of []) (omega (arith, e))

    placed : (i : ℕ) (b : Bool) → position_or_len q l ≡ i → ltb i (length l) ≡ b → cond b (Some i) None ≡ position q l
    placed i b p t = ap (λ z. cond z (Some i) None) (sym t) ∙ ap (λ k. cond (ltb k (length l)) (Some k) None) (sym p)

    pub first_place : (r : Option ℕ) → IsFirst r → r ≡ position q (take count (rows w of c))
    first_place None h =
        let long = counted w of c count n e in
        placed n false (position_or_len_is q l n (of []) (omega (arith, long)) (λ k m. ap q (read k m) ∙ h k (omega arith) m) (λ m. absurd (omega (arith, long, m)))) (le-ltb n (length l) (omega (arith, long)))
    first_place (Some i) h =
        let long = counted w of c count n e in
        let more = h.1 in
        placed i true (position_or_len_is q l i (of []) (omega (arith, long, more)) (λ k m. ap q (read k (omega (arith, more, m))) ∙ h.3 k (omega arith) m) (λ m. ap q (read i more) ∙ h.2)) (lt-ltb i (length l) (omega (arith, long, more)))

-- what is said of the words of rows is said of what they stand for
module _ {A : Type 0} (q : A → Bool) (of : List ℕ → A) where
  place_map : (l : List (List ℕ)) → place_of q (map of l) ≡ place_of (λ ws. q (of ws)) l
  unfolding place_of
  place_map [] = refl
  place_map (ws ∷ l) = ap (λ k. cond (q (of ws)) zero (suc k)) (place_map l)

  position_map : (l : List (List ℕ)) → position q (map of l) ≡ position (λ ws. q (of ws)) l
  position_map l =
      let p : List ℕ → Bool = λ ws. q (of ws) in
      let same : position_or_len q (map of l) ≡ position_or_len p l = sym (same_place q (map of l)) ∙ place_map l ∙ same_place p l in
      ap (λ k. cond (ltb k (length (map of l))) (Some k) None) same ∙ ap (λ n. cond (ltb (position_or_len p l) n) (Some (position_or_len p l)) None) (length-map l of)

module _ {A : Type 0} (w : ℕ) (of : List ℕ → A) (q : A → Bool) (c : List ℕ) (count : ℕ) (r : Option ℕ) where
  pub first_of : (post : Bor (List ℕ) → ℕ → Bool → Type 0)
      → ((p : List ℕ → Bool) → Tells w post p → r ≡ position p (take count (cuts w c)))
      → ((t : Bor (List ℕ)) (i : ℕ) (b : Bool) → post t i b → b ≡ q (get_or (rows w of t.now) i (of [])))
      → r ≡ position q (take count (rows w of c))
  first_of post first tells =
      let words = take count (cuts w c) in
      let typed : map of words ≡ take count (rows w of c) = sym (ap (take count) (rows_cuts w of c) ∙ take-map of count (cuts w c)) in
      first (λ ws. q (of ws)) (λ t i b h. tells t i b h ∙ ap q (row_is w of t.now i)) ∙ sym (position_map q of words) ∙ ap (position q) typed

-- the row itself
pub row_found : {A : Type 0} (w : ℕ) (of : List ℕ → A) (q : A → Bool) (c : List ℕ) (count : ℕ) (r : Option ℕ) → r ≡ position q (take count (rows w of c))
    → option_map (λ i. get_or (rows w of c) i (of [])) r ≡ find q (take count (rows w of c))
row_found w of q c count None e = sym (none_placed q (take count (rows w of c)) (sym e))
row_found w of q c count (Some i) e =
    let l = take count (rows w of c) in
    let at = at_place q l i (sym e) in
    sym (found_in w of q c count i (length l) at.0 refl at.1)
