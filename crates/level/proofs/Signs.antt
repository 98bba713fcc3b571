-- `sqrt` by a value's bits.
use Prim.Native.Nat.{ℕ, zero, suc, ◌+◌, ◌-◌, ◌*◌, ◌/◌, ◌%◌, ◌^◌, ◌≤◌, ◌<◌}
use native.Mathlib.Nat.{lt_irrefl, eq-zero-or-pos, eq-or-lt_of_le, zero-mul, mul-pos, mul-div_cancel}
use native.Mathlib.Omega.{arith}
use mathlib.Core.Path.{◌≡◌, refl, sym, ap, ◌∙◌, subst}
use mathlib.Core.Logic.{◌⊎◌, inl, inr}
use mathlib.Core.Bool.{Bool, true, cond}
use lib.Dec.{T}
use lib.Pow.{pow_pos}
use lib.Ieee.{Float, nan, inf, fin, binary64, up, down, fits, of_bits, to_bits}
use lib.Ieee.Bits.{of_bits-to_bits}
use lib.Ieee.Fits.{down_pos}
use lib.Ieee.Exact.{HasValue}
use Rattle.level.specs.Root.{root_of, sqrt}
use Rattle.level.proofs.Fields.{signed, value_low, value_mid, value_top}

pub sqrt_nan : sqrt nan ≡ nan
unfolding sqrt
sqrt_nan = refl

-- `sqrt` sees only the sign and the value
pub sqrt_of : (v : Float) (s : Bool) (a : ℕ) → 0 < a → HasValue v s a (2 ^ 1074) → sqrt v ≡ cond s nan (root_of a)
unfolding sqrt
sqrt_of nan s a A h = absurd h
sqrt_of (inf t) s a A h = absurd h
sqrt_of (fin t zero e) s a A h =
    absurd (lt_irrefl 0 (subst (λ (x : ℕ). 0 < x) (sym h.1 ∙ ap (λ (x : ℕ). x * 2 ^ 1074) (zero-mul (up e)) ∙ zero-mul (2 ^ 1074)) (mul-pos A (down_pos e))))
sqrt_of (fin t (suc m) e) s a A h =
    ap (λ (b : Bool). cond b nan (root_of (suc m * up e * 2 ^ 1074 / down e))) h.0
    ∙ ap (λ (x : ℕ). cond s nan (root_of x)) (ap (λ (x : ℕ). x / down e) h.1 ∙ mul-div_cancel a (down_pos e))

pub low : (s : Bool) (a : ℕ) → 0 < a → a / 2 ^ 52 ≡ 0 → sqrt (of_bits binary64 (signed s a)) ≡ cond s nan (root_of (a % 2 ^ 52 * 2 ^ 0))
low s a A z = sqrt_of (of_bits binary64 (signed s a)) s (a % 2 ^ 52 * 2 ^ 0) (mul-pos (omega arith) (pow_pos 0)) (value_low s a z)

pub mid : (s : Bool) (a : ℕ) → 0 < a / 2 ^ 52 → a / 2 ^ 52 < 2047 → sqrt (of_bits binary64 (signed s a)) ≡ cond s nan (root_of ((2 ^ 52 + a % 2 ^ 52) * 2 ^ (a / 2 ^ 52 - 1)))
mid s a l u = sqrt_of (of_bits binary64 (signed s a)) s ((2 ^ 52 + a % 2 ^ 52) * 2 ^ (a / 2 ^ 52 - 1)) (mul-pos (omega arith) (pow_pos (a / 2 ^ 52 - 1))) (value_mid s a l u)

minus_inf : sqrt (inf true) ≡ nan
unfolding sqrt
minus_inf = refl

-- below zero
pub negative : (a : ℕ) → 0 < a → a ≤ 0x7ff0_0000_0000_0000 → sqrt (of_bits binary64 (2 ^ 63 + a)) ≡ nan
negative a A h = top (eq-or-lt_of_le h)
  where
    at : (a / 2 ^ 52 ≡ 0) ⊎ (0 < a / 2 ^ 52) → a < 0x7ff0_0000_0000_0000 → sqrt (of_bits binary64 (2 ^ 63 + a)) ≡ nan
    at (inl z) l = low true a A z
    at (inr p) l = mid true a p (omega arith)

    top : (a ≡ 0x7ff0_0000_0000_0000) ⊎ (a < 0x7ff0_0000_0000_0000) → sqrt (of_bits binary64 (2 ^ 63 + a)) ≡ nan
    top (inl e) = ap (λ (x : ℕ). sqrt (of_bits binary64 (2 ^ 63 + x))) e ∙ ap sqrt (value_top true) ∙ minus_inf
    top (inr l) = at (eq-zero-or-pos (a / 2 ^ 52)) l

-- ---- the values that are their own roots
own : (x : Float) → T (fits binary64 x) → (b : ℕ) → to_bits binary64 x ≡ b → of_bits binary64 b ≡ sqrt (of_bits binary64 b) → x ≡ sqrt x
own x F b e o = let z : of_bits binary64 b ≡ x = ap (of_bits binary64) (sym e) ∙ of_bits-to_bits binary64 x F in sym z ∙ o ∙ ap sqrt z

pub own_zero : (x : Float) → T (fits binary64 x) → to_bits binary64 x ≡ 0 → x ≡ sqrt x
unfolding sqrt of_bits
own_zero x F e = own x F 0 e refl

pub own_inf : (x : Float) → T (fits binary64 x) → to_bits binary64 x ≡ 0x7ff0_0000_0000_0000 → x ≡ sqrt x
unfolding sqrt of_bits
own_inf x F e = own x F 0x7ff0_0000_0000_0000 e refl

pub own_minus_zero : (x : Float) → T (fits binary64 x) → to_bits binary64 x ≡ 2 ^ 63 → x ≡ sqrt x
unfolding sqrt of_bits
own_minus_zero x F e = own x F (2 ^ 63) e refl
