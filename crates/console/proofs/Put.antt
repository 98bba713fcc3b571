-- One keyboard's wishes replaced, read at any keyboard.
use Prim.Native.Nat.{ℕ, zero, suc, ◌<◌}
use native.Mathlib.Omega.{arith}
use mathlib.Core.Path.{◌≡◌, refl, ap, ◌∙◌}
use mathlib.Core.List.{List, [], ◌∷◌}
use mathlib.Core.Bool.{Bool, true, false, cond}
use lib.Dec.{eqb}
use lib.ListN.{length, get_or, set}
use lib.Seq.{get_or-set_same, get_or-set_other}
use borrow.Author.Tests.{eqb-true, eqb-false}
use Rattle.store.specs.declared.wish.Wish.{Wish}

pub put_at : (l : List (List Wish)) (q n : ℕ) (x : List Wish) → q < length l → get_or (set l q x) n [] ≡ cond (eqb n q) x (get_or l n [])
put_at l q n x h = go (eqb n q) refl
  where
    go : (b : Bool) → eqb n q ≡ b → get_or (set l q x) n [] ≡ cond b x (get_or l n [])
    go true e = ap (λ i. get_or (set l q x) i []) (eqb-true n q e) ∙ get_or-set_same l q x [] h
    go false e = get_or-set_other l q n x [] (eqb-false n q e)

-- a keyboard at which a wish waits is one of the keyboards
pub waits_in : (l : List (List Wish)) (q : ℕ) (w : Wish) (r : List Wish) → get_or l q [] ≡ w ∷ r → q < length l
waits_in [] q w r e = let z : ◌≡◌ {A = ℕ} 0 (length (w ∷ r)) = ap length e in absurd (omega (arith, z))
waits_in (x ∷ l) zero w r e = omega arith
waits_in (x ∷ l) (suc q) w r e = let i = waits_in l q w r e in omega (arith, i)
