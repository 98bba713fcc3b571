-- `narrow_bits` on plain numbers: the bits of the nearest binary32 value, from those of a binary64 one.
use Prim.Native.Nat.{ℕ, ◌+◌, ◌-◌, ◌*◌, ◌/◌, ◌%◌, ◌^◌, ◌≤◌, ◌<◌}
use native.Mathlib.Nat.{eq-zero-or-pos, le_trans, le_of_eq, lt_of_lt_of_le, lt_of_le_of_lt, zero-add, one-mul, mul-one, mul-le-mul, mul-le-mul_left, mul-lt-mul_of_pos_right}
use native.Mathlib.Omega.{arith}
use mathlib.Core.Path.{◌≡◌, refl, sym, ap, ◌∙◌, subst}
use mathlib.Core.Logic.{◌⊎◌, inl, inr}
use mathlib.Core.Bool.{Bool, true, false, cond}
use lib.Dec.{lit<, lit≤}
use lib.Pow.{pow_pos, pow_mono, shl_exact}
use lib.Ieee.{Float, nan, inf, fin, binary32, binary64, up, down, round, of_bits}
use lib.Ieee.Fits.{down_pos}
use lib.Ieee.Exact.{HasValue}
use lib.Ieee.Nearest.{closest}
use lib.Ieee.Scale.{round_same}
use Rattle.level.specs.Narrow.{narrow}
use Rattle.level.proofs.Quotient.{closest_none}
use Rattle.level.proofs.Pack.{or_less, kept_ge, kept_le, normal, too_large, subnormal}
use Rattle.level.proofs.Fields.{signed, value_low, value_mid, value_top}

pub narrow_nan : narrow nan ≡ nan
unfolding narrow
narrow_nan = refl

narrow_inf : (s : Bool) → narrow (inf s) ≡ inf s
unfolding narrow
narrow_inf s = refl

-- `narrow` sees only the sign and the value
narrow_of : (v : Float) (s : Bool) (a c : ℕ) → 0 < c → HasValue v s a c → round binary32 s a c ≡ narrow v
unfolding narrow
narrow_of nan s a c C h = absurd h
narrow_of (inf t) s a c C h = absurd h
narrow_of (fin t m e) s a c C h = sym (ap (λ (b : Bool). round binary32 b (m * up e) (down e)) h.0 ∙ round_same binary32 s (m * up e) (down e) a c (down_pos e) C h.1)

-- ---- the ways of `narrow_bits`, for either sign
abbrev pub Right : ℕ → ℕ → Type 0
Right a r = (s : Bool) → of_bits binary32 (cond s (2 ^ 31) 0 + r) ≡ narrow (of_bits binary64 (signed s a))

infinite : (s : Bool) → of_bits binary32 (cond s (2 ^ 31) 0 + 0x7f80_0000) ≡ inf s
unfolding of_bits
infinite true = refl
infinite false = refl

pub at_top : (a : ℕ) → a ≤ 0x7ff0_0000_0000_0000 → a / 2 ^ 52 ≡ 2047 → Right a 0x7f80_0000
at_top a h e s =
    let z : a ≡ 0x7ff0_0000_0000_0000 = omega arith in
    infinite s ∙ sym (ap narrow (ap (λ (x : ℕ). of_bits binary64 (signed s x)) z ∙ value_top s) ∙ narrow_inf s)

mid : (s : Bool) (a : ℕ) → 0 < a / 2 ^ 52 → a / 2 ^ 52 < 2047 → round binary32 s ((2 ^ 52 + a % 2 ^ 52) * 2 ^ (a / 2 ^ 52 - 1)) (2 ^ 1074) ≡ narrow (of_bits binary64 (signed s a))
mid s a l u = narrow_of (of_bits binary64 (signed s a)) s ((2 ^ 52 + a % 2 ^ 52) * 2 ^ (a / 2 ^ 52 - 1)) (2 ^ 1074) (pow_pos 1074) (value_mid s a l u)

-- no digit above the 23 that an f32 stores
low32 : (s : Bool) (m e d : ℕ) → e + d ≡ 925 → m < 2 ^ 24 * 2 ^ d → of_bits binary32 (cond s (2 ^ 31) 0 + closest m (2 ^ d)) ≡ round binary32 s (m * 2 ^ e) (2 ^ 1074)
low32 s m e d h hi =
    ap (λ (x : ℕ). of_bits binary32 (cond s (2 ^ 31) 0 + x)) (sym (zero-add (closest m (2 ^ d))))
    ∙ subnormal binary32 s m e 1074 d (omega arith) hi
    (lt_of_le_of_lt (le_of_eq (mul-one (closest m (2 ^ d)))) (lt_of_le_of_lt (kept_le 24 m d hi) (lit< tt)))

-- less than half of the smallest f32
zero32 : (s : Bool) (m e : ℕ) → m < 2 ^ 53 → e < 872 → of_bits binary32 (cond s (2 ^ 31) 0 + 0) ≡ round binary32 s (m * 2 ^ e) (2 ^ 1074)
zero32 s m e h l =
    let d : 54 ≤ 925 - e = omega arith in
    ap (λ (x : ℕ). of_bits binary32 (cond s (2 ^ 31) 0 + x)) (sym (closest_none m (2 ^ (925 - e)) (lt_of_lt_of_le double (pow_mono d))))
    ∙ low32 s m e (925 - e) (omega arith) (lt_of_lt_of_le h (le_trans (lit≤ tt) (mul-le-mul_left (2 ^ 24) (pow_mono d))))
  where
    double : m * 2 < 2 ^ 54
    double = omega arith

pub at_zero : (a : ℕ) → a / 2 ^ 52 < 873 → Right a 0
at_zero a h s = go (eq-zero-or-pos (a / 2 ^ 52))
  where
    go : (a / 2 ^ 52 ≡ 0) ⊎ (0 < a / 2 ^ 52) → of_bits binary32 (cond s (2 ^ 31) 0 + 0) ≡ narrow (of_bits binary64 (signed s a))
    go (inl z) =
        zero32 s (a % 2 ^ 52) 0 (omega arith) (omega arith)
        ∙ narrow_of (of_bits binary64 (signed s a)) s (a % 2 ^ 52 * 2 ^ 0) (2 ^ 1074) (pow_pos 1074) (value_low s a z)
    go (inr l) = zero32 s (2 ^ 52 + a % 2 ^ 52) (a / 2 ^ 52 - 1) (omega arith) (omega arith) ∙ mid s a l (omega arith)

-- a power of two as the code makes it
pub shl_one : (d : ℕ) → d < 64 → 1 * 2 ^ d % 2 ^ 64 ≡ 2 ^ d
shl_one d h = shl_exact 1 d 64 (lit< tt) (omega arith) ∙ one-mul (2 ^ d)

module _ (a : ℕ) (l : 873 ≤ a / 2 ^ 52) (u : a / 2 ^ 52 < 897) where
  room : 2 ^ 52 + a % 2 ^ 52 < 2 ^ 24 * 2 ^ (926 - a / 2 ^ 52)
  room =
      let lt : 2 ^ 52 + a % 2 ^ 52 < 2 ^ 24 * 2 ^ 29 = omega arith in
      let d : 29 ≤ 926 - a / 2 ^ 52 = omega arith in
      lt_of_lt_of_le lt (mul-le-mul_left (2 ^ 24) (pow_mono d))

  pub at_low : (r : ℕ) → r ≡ closest (2 ^ 52 + a % 2 ^ 52) (1 * 2 ^ (926 - a / 2 ^ 52) % 2 ^ 64) → (r ≤ 0x7f80_0000) × Right a r
  at_low r e =
      let e' : r ≡ closest (2 ^ 52 + a % 2 ^ 52) (2 ^ (926 - a / 2 ^ 52)) = e ∙ ap (closest (2 ^ 52 + a % 2 ^ 52)) (shl_one (926 - a / 2 ^ 52) (omega arith)) in (
        le_trans (le_of_eq e') (le_trans (kept_le 24 (2 ^ 52 + a % 2 ^ 52) (926 - a / 2 ^ 52) room) (lit≤ tt)),
        λ s. ap (λ (x : ℕ). of_bits binary32 (cond s (2 ^ 31) 0 + x)) e' ∙ low32 s (2 ^ 52 + a % 2 ^ 52) (a / 2 ^ 52 - 1) (926 - a / 2 ^ 52) (omega arith) room ∙ mid s a (omega arith) (omega arith),
      )

-- ---- where the exponent's field of the result is above 0: too large by the bits is too large by the value
under : (k q : ℕ) → q ≤ 2 ^ 24 → 2 ^ 23 ≤ q → k * 0x80_0000 + q < 0x7f80_0000 → q * 2 ^ k < 2 ^ 277
under k q u l h = go (or_less k 252)
  where
    go : (k ≤ 252) ⊎ (252 < k) → q * 2 ^ k < 2 ^ 277
    go (inl g) = lt_of_le_of_lt (mul-le-mul u (pow_mono g)) (lit< tt)
    go (inr g) =
        let e : k ≡ 253 = omega arith in
        let v : q < 2 ^ 24 = omega arith in
        subst (λ (x : ℕ). q * 2 ^ x < 2 ^ 277) (sym e) (mul-lt-mul_of_pos_right v (pow_pos 253))

over : (k q : ℕ) → q ≤ 2 ^ 24 → 2 ^ 23 ≤ q → 0x7f80_0000 ≤ k * 0x80_0000 + q → 2 ^ 277 ≤ q * 2 ^ k
over k q u l h = go (or_less 254 k)
  where
    go : (254 ≤ k) ⊎ (k < 254) → 2 ^ 277 ≤ q * 2 ^ k
    go (inl g) = mul-le-mul l (pow_mono g)
    go (inr g) =
        let e : 253 ≤ k = omega arith in
        let v : 2 ^ 24 ≤ q = omega arith in
        mul-le-mul v (pow_mono e)

module _ (a : ℕ) (l : 897 ≤ a / 2 ^ 52) (u : a / 2 ^ 52 < 2047) where
  abbrev m : ℕ
  m = 2 ^ 52 + a % 2 ^ 52

  exps : a / 2 ^ 52 - 1 + (149 + 29) ≡ 1074 + (a / 2 ^ 52 - 897)
  exps = omega arith

  lo : 2 ^ 52 ≤ m
  lo = omega arith

  hi : m < 2 ^ 53
  hi = omega arith

  pos : 0 < a / 2 ^ 52
  pos = omega arith

  pub digits_le : closest m (2 ^ 29) ≤ 2 ^ 24
  digits_le = kept_le 24 m 29 hi

  digits_ge : 2 ^ 23 ≤ closest m (2 ^ 29)
  digits_ge = kept_ge 23 m 29 lo

  mid_bits : (a / 2 ^ 52 - 897) * 0x80_0000 + closest m (2 ^ 29) < 0x7f80_0000 → Right a ((a / 2 ^ 52 - 897) * 0x80_0000 + closest m (2 ^ 29))
  mid_bits h s =
      normal binary32 s m (a / 2 ^ 52 - 1) 1074 29 (a / 2 ^ 52 - 897) exps hi lo (under (a / 2 ^ 52 - 897) (closest m (2 ^ 29)) digits_le digits_ge h)
      ∙ mid s a pos u

  pub at_mid : (r : ℕ) → r ≡ closest m (2 ^ 29) → (a / 2 ^ 52 - 897) * 0x80_0000 + r < 0x7f80_0000 → Right a ((a / 2 ^ 52 - 897) * 0x80_0000 + r)
  at_mid r e = subst (λ (r : ℕ). (a / 2 ^ 52 - 897) * 0x80_0000 + r < 0x7f80_0000 → Right a ((a / 2 ^ 52 - 897) * 0x80_0000 + r)) (sym e) mid_bits

  pub at_over : (r : ℕ) → r ≡ closest m (2 ^ 29) → 0x7f80_0000 ≤ (a / 2 ^ 52 - 897) * 0x80_0000 + r → Right a 0x7f80_0000
  at_over r e g s =
      let h : 0x7f80_0000 ≤ (a / 2 ^ 52 - 897) * 0x80_0000 + closest m (2 ^ 29) = subst (λ (x : ℕ). 0x7f80_0000 ≤ (a / 2 ^ 52 - 897) * 0x80_0000 + x) e g in
      infinite s
      ∙ too_large binary32 s m (a / 2 ^ 52 - 1) 1074 29 (a / 2 ^ 52 - 897) exps hi lo (over (a / 2 ^ 52 - 897) (closest m (2 ^ 29)) digits_le digits_ge h)
      ∙ mid s a pos u
