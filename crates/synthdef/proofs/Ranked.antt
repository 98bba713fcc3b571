-- The place in a list that has the sources of arcs before their targets is a ranking of the arcs.
use Prim.Native.Nat.{ℕ, zero, suc, ◌<◌}
use native.Mathlib.Omega.{arith}
use mathlib.Core.Path.{◌≡◌, sym, ap, ◌∙◌}
use mathlib.Core.Logic.{inl, inr}
use mathlib.Core.List.{List, [], ◌∷◌}
use mathlib.Core.Bool.{false, cond, false≢true}
use lib.Dec.{eqb}
use borrow.Author.Tests.{eq-eqb, ne_eqb}
use Rattle.rank.proofs.Invariant.{in_among}
use Rattle.lists.specs.Member.{In}
use Rattle.rank.specs.Order.{among}
use Rattle.rank.specs.Cycle.{Distinct, Before}

unfoldable pub place : ℕ → List ℕ → ℕ
place x [] = zero
place x (y ∷ l) = cond (eqb x y) zero (suc (place x l))

-- what stands after a number that is there once is another one
other : (x z : ℕ) (l : List ℕ) → among z l ≡ false → In x l → eqb x z ≡ false
other x z l f i = ne_eqb x z (λ p. false≢true (sym f ∙ ap (λ y. among y l) (sym p) ∙ in_among x l i))

before_in : (x y : ℕ) (l : List ℕ) → Before x y l → In x l
before_in x y [] b = absurd b
before_in x y (z ∷ l) (inl p) = inl p.0
before_in x y (z ∷ l) (inr b) = inr (before_in x y l b)

in_after : (x y : ℕ) (l : List ℕ) → Before x y l → In y l
in_after x y [] b = absurd b
in_after x y (z ∷ l) (inl p) = inr p.1
in_after x y (z ∷ l) (inr b) = inr (in_after x y l b)

pub before_lower : (x y : ℕ) (l : List ℕ) → Distinct l → Before x y l → place x l < place y l
unfolding place
before_lower x y [] d b = absurd b
before_lower x y (z ∷ l) d (inl p) = rw (eq-eqb x z p.0, other y z l d.0 p.1) (omega arith)
before_lower x y (z ∷ l) d (inr b) =
    rw (other x z l d.0 (before_in x y l b), other y z l d.0 (in_after x y l b)) (omega (arith, before_lower x y l d.1 b))
