-- Laws of rows.
use Prim.Native.Nat.{ℕ, ◌≤◌, min}
use native.Mathlib.Omega.{arith}
use mathlib.Core.Path.{◌≡◌, refl, ap, ◌∙◌}
use mathlib.Core.Logic.{inl, inr}
use mathlib.Core.List.{List, [], ◌∷◌, ◌++◌}
use mathlib.Core.Bool.{Bool, true, false}
use lib.ListN.{length, take, length-take}
use lib.Seq.{take-append_seam}
use Rattle.std.proofs.lemmas.Bool.{and_from, or_parts}
use native.Mathlib.Nat.{min-le_left}
use Rattle.lists.specs.Table.{rows_of}
use Rattle.lists.specs.Member.{In}
use Rattle.lists.proofs.Member.{and_left, and_right}
use Rattle.synthdef.specs.Rows.{every, any}

module _ {A : Type 0} where
  pub every_in : (q : A → Bool) (l : List A) (x : A) → every q l ≡ true → In x l → q x ≡ true
  every_in q [] x h i = absurd i
  every_in q (y ∷ l) x h (inl p) = ap q p ∙ and_left (q y) (every q l) h
  every_in q (y ∷ l) x h (inr i) = every_in q l x (and_right (q y) (every q l) h) i

  pub in_every : (q : A → Bool) (l : List A) → ((x : A) → In x l → q x ≡ true) → every q l ≡ true
  in_every q [] h = refl
  in_every q (y ∷ l) h = and_from (q y) (every q l) (h y (inl refl)) (in_every q l (λ x i. h x (inr i)))

  pub none_any : (q : A → Bool) (l : List A) (x : A) → any q l ≡ false → In x l → q x ≡ false
  none_any q [] x h i = absurd i
  none_any q (y ∷ l) x h (inl p) = ap q p ∙ (or_parts (q y) (any q l) h).0
  none_any q (y ∷ l) x h (inr i) = none_any q l x (or_parts (q y) (any q l) h).1 i

  pub every_same : (q r : A → Bool) (l : List A) → ((x : A) → q x ≡ r x) → every q l ≡ every r l
  every_same q r [] e = refl
  every_same q r (x ∷ l) e = rw (e x, every_same q r l e)

pub table_rows : {A : Type 0} (room : ℕ) (l rest : List A) → length l ≤ room → rows_of room (length l) (l ++ rest) ≡ l
table_rows room l rest h =
    let m : min (length l) room ≡ length l = omega arith in
    ap (λ k. take k (l ++ rest)) m ∙ take-append_seam l rest

-- the rows of a table are as many as its count at most
pub rows_few : {A : Type 0} (capacity count : ℕ) (l : List A) → length (take (min count capacity) l) ≤ count
rows_few capacity count l = omega (arith, length-take (min count capacity) l, min-le_left (min count capacity) (length l), min-le_left count capacity)
