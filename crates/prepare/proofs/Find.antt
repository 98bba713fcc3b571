-- The laws of the row of an id.
use Prim.Native.Nat.{ℕ, zero, suc, ◌<◌}
use native.Mathlib.Omega.{arith}
use native.Mathlib.Nat.{not-suc-le-zero}
use mathlib.Core.Path.{◌≡◌, refl, ap}
use mathlib.Core.Logic.{◌≢◌}
use mathlib.Core.List.{List, [], ◌∷◌}
use lib.ListN.{length, get_or}
use borrow.Author.Tests.{eq-eqb, ne_eqb}
use Rattle.rank.specs.Names.{row_of}
use Rattle.prepare.specs.Parts.{Rising}

row_here : (l : List ℕ) (x k : ℕ) → k < length l → ((j : ℕ) → j < k → get_or l j 0 ≢ x) → get_or l k 0 ≡ x → k ≡ row_of l x
unfolding row_of
row_here [] x k h o e = absurd (not-suc-le-zero h)
row_here (y ∷ l) x zero h o e = rw (eq-eqb y x e)
row_here (y ∷ l) x (suc k) h o e =
    rw (ne_eqb y x (o 0 (omega arith))) (ap suc (row_here l x k (omega arith) (λ j lt. o (suc j) (omega arith)) e))

pub row_nowhere : (l : List ℕ) (x : ℕ) → ((j : ℕ) → j < length l → get_or l j 0 ≢ x) → length l ≡ row_of l x
unfolding row_of
row_nowhere [] x o = refl
row_nowhere (y ∷ l) x o = rw (ne_eqb y x (o 0 (omega arith))) (ap suc (row_nowhere l x (λ j lt. o (suc j) (omega arith))))

-- a row that has x is the row of x
pub guessed : (ids : List ℕ) (x : ℕ) → Rising ids → (g : ℕ) → g < length ids → get_or ids g 0 ≡ x → g ≡ row_of ids x
guessed ids x r g h e = row_here ids x g h (λ j lt z. omega (arith, r.rises j g lt h)) e
