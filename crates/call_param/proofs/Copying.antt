-- The first row that passes a test takes the place of each one behind it that passes, too.
use Prim.Native.Nat.{ℕ, zero, suc, ◌+◌, ◌/◌, ◌≤◌, ◌<◌, min}
use native.Mathlib.Omega.{arith}
use mathlib.Core.Path.{◌≡◌, refl, sym, ap, ◌∙◌, subst}
use mathlib.Core.List.{List, [], ◌∷◌, map}
use mathlib.Core.Bool.{Bool, true, false, cond}
use lib.Dec.{eqb}
use lib.ListN.{length, take, get_or, set}
use lib.Seq.{take-take, get_or-set_same, get_or-set_other}
use borrow.Author.Tests.{eqb-true, eqb-false}
use Rattle.words.specs.Place.{place_of}
use Rattle.words.specs.Rows.{rows, row_moved}
use Rattle.words.proofs.Rows.{rows_long, rows_move, moved_long}
use Rattle.words.proofs.Place.{place_le, counted}
use Rattle.words.proofs.InWords.{ChangingIn, change_row, change_none}

module _ {A : Type 0} where
  -- a row stored that passes as the one before it did
  pub place_set : (q : A → Bool) (d y : A) (l : List A) (p : ℕ) → q y ≡ q (get_or l p d) → place_of q (set l p y) ≡ place_of q l
  unfolding place_of
  place_set q d y [] p e = refl
  place_set q d y (x ∷ l) zero e = ap (λ b. cond b zero (suc (place_of q l))) e
  place_set q d y (x ∷ l) (suc p) e = ap (λ n. cond (q x) zero (suc n)) (place_set q d y l p e)

  -- those before the first that passes stay
  place_map : (q : A → Bool) (x : A) (l : List A) → map (λ y. cond (q y) x y) (take (place_of q l) l) ≡ take (place_of q l) l
  unfolding place_of
  place_map q x [] = refl
  place_map q x (y ∷ l) = go (q y) refl (place_map q x l)
    where
      go : (b : Bool) → q y ≡ b → map (λ z. cond (q z) x z) (take (place_of q l) l) ≡ take (place_of q l) l
          → map (λ z. cond (q z) x z) (take (cond b zero (suc (place_of q l))) (y ∷ l)) ≡ take (cond b zero (suc (place_of q l))) (y ∷ l)
      go true e ih = refl
      go false e ih = ap (λ b. cond b x y ∷ map (λ z. cond (q z) x z) (take (place_of q l) l)) e ∙ ap (λ m. y ∷ m) ih

  same_at : (l : List A) (i p : ℕ) (x d : A) → i < length l → get_or l p d ≡ x → get_or (set l i x) p d ≡ x
  same_at l i p x d h e = go (eqb p i) refl
    where
      go : (b : Bool) → eqb p i ≡ b → get_or (set l i x) p d ≡ x
      go true t = let s : p ≡ i = eqb-true p i t in ap (λ k. get_or (set l i x) k d) s ∙ get_or-set_same l i x d h
      go false t = get_or-set_other l i p x d (eqb-false p i t) ∙ e

-- the loop: the rows from p to i have their new record, and row p still is x
module _ {A : Type 0} (w : ℕ) (of : List ℕ → A) (q : A → Bool) (x : A) (old : List ℕ) (n p : ℕ) where
  abbrev pub CopyingOn : List ℕ → ℕ → Type 0
  CopyingOn new i = (p ≤ i) × (get_or (rows w of new) p (of []) ≡ x) × ChangingIn w of (λ y. cond (q y) x y) old new n i

  pub copying_start : (count : ℕ) → n ≡ min count (length old / w) → p ≡ place_of q (take count (rows w of old)) → get_or (rows w of old) p (of []) ≡ x → CopyingOn old p
  copying_start count e at is =
      let l = take count (rows w of old) in
      let low : p ≤ n = omega (arith, place_le q l, counted w of old count n e) in
      let below : p ≤ count = omega arith in
      let part : take p l ≡ take p (rows w of old) = take-take p count (rows w of old) below in
      let all : map (λ y. cond (q y) x y) (take p l) ≡ take p l = subst (λ k. map (λ y. cond (q y) x y) (take k l) ≡ take k l) (sym at) (place_map q x l) in
      (omega arith, is, (low, refl, record { long = refl; front = sym (ap (map (λ y. cond (q y) x y)) (sym part) ∙ all ∙ part); left = refl }))

  module _ (fits : n ≤ length old / w) (new : List ℕ) (i : ℕ) (more : i < n) (inv : CopyingOn new i) where
    pub copying_row : (last : List ℕ) → last ≡ row_moved w p i new → q (get_or (rows w of new) i (of [])) ≡ true → CopyingOn last (i + 1)
    copying_row last moved t =
        let same : length new / w ≡ length old / w = ap (λ m. m / w) inv.2.1 in
        let to : i < length new / w = omega arith in
        let from : p < length new / w = omega (arith, inv.0) in
        let inside : i < length (rows w of new) = omega (arith, rows_long w of new) in
        let put : rows w of last ≡ set (rows w of new) i x = ap (rows w of) moved ∙ rows_move w of new i p (of []) to from ∙ ap (set (rows w of new) i) inv.1 in (
          omega (arith, inv.0),
          ap (λ l. get_or l p (of [])) put ∙ same_at (rows w of new) i p x (of []) inside inv.1,
          change_row w of (λ y. cond (q y) x y) old new n i fits more inv.2 last (ap length moved ∙ moved_long w p i new) (put ∙ sym (ap (λ b. set (rows w of new) i (cond b x (get_or (rows w of new) i (of [])))) t)),
        )

    pub copying_none : q (get_or (rows w of new) i (of [])) ≡ false → CopyingOn new (i + 1)
    copying_none t = (omega (arith, inv.0), inv.1, change_none w of (λ y. cond (q y) x y) old new n i fits more inv.2 (ap (λ b. cond b x (get_or (rows w of new) i (of []))) t))
