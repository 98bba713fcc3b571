-- A fraction to the nearest whole number, by how twice its remainder compares with its divisor.
use Prim.Native.Nat.{ℕ, ◌*◌, ◌/◌, ◌%◌, ◌≤◌, ◌<◌, compare, Ordering}
use native.Mathlib.Nat.{div-eq_of_lt, mod-eq_of_lt}
use native.Mathlib.Omega.{arith}
use mathlib.Core.Path.{◌≡◌, refl, sym, ap, ◌∙◌, subst}
use mathlib.Core.Bool.{not}
use lib.Dec.{T, is_le, compare_is_eq, eqb, leb→le, nleb→lt, eqb→eq, eqb_refl}
use lib.Ieee.{nearest}
use lib.Ieee.Nearest.{closest}

abbrev pub Compares : Ordering → ℕ → ℕ → Type 0
Compares Ordering.lt a b = a < b
Compares Ordering.eq a b = a ≡ b
Compares Ordering.gt a b = b < a

compares : (o : Ordering) (a b : ℕ) → Compares o a b → compare a b ≡ o
compares o a b h = go (compare a b) o (leb→le a b) (nleb→lt a b) (eqb→eq a b) (λ (e : a ≡ b). subst (λ (x : ℕ). T (eqb a x)) e (eqb_refl a)) h
  where
    go : (p o : Ordering) → (T (is_le p) → a ≤ b) → (T (not (is_le p)) → b < a) → (T (compare_is_eq p) → a ≡ b) → (a ≡ b → T (compare_is_eq p)) → Compares o a b → p ≡ o
    go Ordering.lt Ordering.lt l g e n h = refl
    go Ordering.lt Ordering.eq l g e n h = absurd (n h)
    go Ordering.lt Ordering.gt l g e n h = let x = l tt in absurd (omega arith)
    go Ordering.eq Ordering.lt l g e n h = let x = e tt in absurd (omega arith)
    go Ordering.eq Ordering.eq l g e n h = refl
    go Ordering.eq Ordering.gt l g e n h = let x = e tt in absurd (omega arith)
    go Ordering.gt Ordering.lt l g e n h = let x = g tt in absurd (omega arith)
    go Ordering.gt Ordering.eq l g e n h = absurd (n h)
    go Ordering.gt Ordering.gt l g e n h = refl

pub closest_by : (o : Ordering) (m u : ℕ) → Compares o (m % u * 2) u → closest m u ≡ nearest (m / u) o
closest_by o m u h = ap (nearest (m / u)) (compares o (m % u * 2) u h)

-- less than half of the divisor
pub closest_none : (m u : ℕ) → m * 2 < u → closest m u ≡ 0
closest_none m u h =
    let l : m < u = omega arith in
    closest_by Ordering.lt m u (subst (λ (x : ℕ). x * 2 < u) (sym (mod-eq_of_lt l)) h) ∙ div-eq_of_lt l
