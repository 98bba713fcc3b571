-- Laws of loops that fill a table from its front.
use Prim.Native.Nat.{ℕ, suc, ◌+◌, ◌-◌, ◌≤◌, ◌<◌}
use native.Mathlib.Omega.{arith}
use mathlib.Core.Path.{◌≡◌, sym, ap, ◌∙◌}
use mathlib.Core.List.{List, ◌∷◌, ◌++◌}
use lib.ListN.{length, take, set, replicate}
use lib.Seq.{length-take-le, set_at, append_snoc}
use Rattle.std.proofs.lemmas.List.{take_more_set}

-- an array that is filled from the front: w rows so far, and d past them
pub record Filled {A : Type 0} (d : A) (room : ℕ) (rows : List A) (w : ℕ) : Type 0 where
  pub few : w ≤ room
  pub is : rows ≡ take w rows ++ replicate (room - w) d

module _ {A : Type 0} (d : A) (room : ℕ) where
  module _ (rows : List A) (w : ℕ) (f : Filled d room rows w) where
    pub filled_one : (x : A) → w < length rows → w < room → Filled d room (set rows w x) (w + 1)
    filled_one x h k =
        record {
          few = omega arith;
          is =
              let front : length (take w rows) ≡ w = length-take-le w rows (omega arith) in
              let split : room - w ≡ suc (room - (w + 1)) = omega arith in
              ap (λ l. set l w x) (f.is ∙ ap (λ m. take w rows ++ replicate m d) split)
              ∙ set_at (take w rows) d (replicate (room - (w + 1)) d) x w front
              ∙ sym (append_snoc (take w rows) x (replicate (room - (w + 1)) d))
              ∙ ap (λ l. l ++ replicate (room - (w + 1)) d) (sym (take_more_set rows w x h));
        }

-- a row stored at the count, before what is still to come
pub one_more : {A : Type 0} (rows : List A) (w : ℕ) (x : A) (rest : List A) → w < length rows → take (w + 1) (set rows w x) ++ rest ≡ take w rows ++ x ∷ rest
one_more rows w x rest h = ap (λ l. l ++ rest) (take_more_set rows w x h) ∙ append_snoc (take w rows) x rest
