-- Laws of what an array holds of a list, for any row type and room.
use Prim.Native.Nat.{ℕ, zero, suc, ◌≤◌, ◌<◌}
use native.Mathlib.Nat.{min-eq_left}
use native.Mathlib.Omega.{arith}
use mathlib.Core.Path.{◌≡◌, refl, sym, ap, ◌∙◌}
use mathlib.Core.List.{List, [], ◌∷◌, ◌++◌}
use mathlib.Core.Bool.{true}
use lib.ListN.{length, take, drop, get_or, set, replicate}
use lib.Seq.{take-nil, drop-nil}
use borrow.Author.Tests.{eqb-true}
use Rattle.lists.specs.Table.{rows_of}
use Rattle.lists.proofs.Member.{and_left, and_right}
use Rattle.synthdef.specs.Rows.{every}
use Rattle.def_book.specs.Held.{held}
use Rattle.def_book.specs.Rows.{is_zero}

module _ {A : Type 0} (d : A) where
  pub length_held : (room : ℕ) (l : List A) → length (held room d l) ≡ room
  unfolding held
  length_held zero l = refl
  length_held (suc room) [] = ap suc (length_held room [])
  length_held (suc room) (x ∷ l) = ap suc (length_held room l)

  pub held_none : (room : ℕ) → held room d [] ≡ replicate room d
  unfolding held
  held_none zero = refl
  held_none (suc room) = ap (λ l. d ∷ l) (held_none room)

  -- one row more, stored at the count; past the room nothing is stored
  pub held_more : (room : ℕ) (l : List A) (x : A) → set (held room d l) (length l) x ≡ held room d (l ++ (x ∷ []))
  unfolding held
  held_more zero l x = refl
  held_more (suc room) [] x = refl
  held_more (suc room) (y ∷ l) x = ap (λ z. y ∷ z) (held_more room l x)

  -- what an array holds of a list that begins with what it holds
  pub held_again : (room : ℕ) (l z : List A) → held room d (held room d l ++ z) ≡ held room d l
  unfolding held
  held_again zero l z = refl
  held_again (suc room) [] z = ap (λ m. d ∷ m) (held_again room [] z)
  held_again (suc room) (x ∷ l) z = ap (λ m. x ∷ m) (held_again room l z)

  pub get_d_held : (room : ℕ) (l : List A) (i : ℕ) → i < room → get_or (held room d l) i d ≡ get_or l i d
  unfolding held
  get_d_held zero l i h = absurd (omega arith)
  get_d_held (suc room) [] zero h = refl
  get_d_held (suc room) [] (suc i) h = get_d_held room [] i (omega arith)
  get_d_held (suc room) (x ∷ l) zero h = refl
  get_d_held (suc room) (x ∷ l) (suc i) h = get_d_held room l i (omega arith)

  pub take_held : (room : ℕ) (l : List A) → length l ≤ room → take (length l) (held room d l) ≡ l
  unfolding held
  take_held room [] h = refl
  take_held zero (x ∷ l) h = absurd (omega arith)
  take_held (suc room) (x ∷ l) h = ap (λ m. x ∷ m) (take_held room l (omega arith))

  -- the rows of a table that holds a list, where there is room for all of it
  pub rows_held : (room : ℕ) (l : List A) → length l ≤ room → rows_of room (length l) (held room d l) ≡ l
  rows_held room l h = ap (λ k. take k (held room d l)) (min-eq_left h) ∙ take_held room l h

-- ---- the bytes of a name: past the first n they are zero
pub rest_zero : (room n : ℕ) (b : List ℕ) → every is_zero (drop n (held room 0 (take n b))) ≡ true
unfolding held
rest_zero zero n b = rw (drop-nil n)
rest_zero (suc room) zero b = rest_zero room zero b
rest_zero (suc room) (suc n) [] = ap (λ l. every is_zero (drop n (held room 0 l))) (sym (take-nil n)) ∙ rest_zero room n []
rest_zero (suc room) (suc n) (x ∷ b) = rest_zero room n b

pub held_clean : (room n : ℕ) (b : List ℕ) → length b ≡ room → every is_zero (drop n b) ≡ true → held room 0 (take n b) ≡ b
unfolding held
held_clean zero n [] l h = refl
held_clean zero n (x ∷ b) l h = absurd (omega arith)
held_clean (suc room) n [] l h = absurd (omega arith)
held_clean (suc room) zero (x ∷ b) l h =
    let first : x ≡ 0 = eqb-true x 0 (and_left (is_zero x) (every is_zero b) h) in
    let rest : held room 0 [] ≡ b = held_clean room zero b (omega arith) (and_right (is_zero x) (every is_zero b) h) in
    cc
held_clean (suc room) (suc n) (x ∷ b) l h = ap (λ m. x ∷ m) (held_clean room n b (omega arith) h)
