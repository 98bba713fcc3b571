-- What the bits of a binary64 value say of it: its value from the exponent's field and the digits, for either sign.
use Prim.Native.Nat.{ℕ, suc, ◌+◌, ◌-◌, ◌*◌, ◌/◌, ◌%◌, ◌^◌, ◌<◌}
use native.Mathlib.Omega.{arith}
use mathlib.Core.Path.{◌≡◌, refl, sym, ap, ◌∙◌, subst}
use mathlib.Core.Bool.{Bool, true, false, cond}
use lib.Dec.{leb, eqb}
use lib.Ieee.{Float, nan, inf, binary64, odd, of_bits, of_fields}
use lib.Ieee.Exact.{HasValue, odd_sign}
use borrow.Author.Tests.{le-leb, lt-leb, ne_eqb}

-- the bits a with the sign s
abbrev pub signed : Bool → ℕ → ℕ
signed s a = cond s (2 ^ 63) 0 + a

sign_is : (s : Bool) (a : ℕ) → a < 2 ^ 63 → leb (2 ^ 63) (signed s a) ≡ s
sign_is true a h = le-leb (2 ^ 63) (2 ^ 63 + a) (omega arith)
sign_is false a h = lt-leb (2 ^ 63) (0 + a) (omega arith)

field_is : (s : Bool) (a : ℕ) → a < 2 ^ 63 → signed s a % 2 ^ 63 / 2 ^ 52 ≡ a / 2 ^ 52
field_is true a h = omega arith
field_is false a h = omega arith

digits_are : (s : Bool) (a : ℕ) → signed s a % 2 ^ 52 ≡ a % 2 ^ 52
digits_are true a = omega arith
digits_are false a = omega arith

fields : (s : Bool) (a : ℕ) → a < 2 ^ 63 → of_bits binary64 (signed s a) ≡ of_fields binary64 s (a / 2 ^ 52) (a % 2 ^ 52)
unfolding of_bits
fields s a h =
    ap (λ (b : Bool). of_fields binary64 b (signed s a % 2 ^ 63 / 2 ^ 52) (signed s a % 2 ^ 52)) (sign_is s a h)
    ∙ ap (λ (x : ℕ). of_fields binary64 s x (signed s a % 2 ^ 52)) (field_is s a h)
    ∙ ap (of_fields binary64 s (a / 2 ^ 52)) (digits_are s a)

-- a field of 0, of 2047 and between
field_low : (s : Bool) (t : ℕ) → of_fields binary64 s 0 t ≡ odd 53 s t 0 1074
unfolding of_fields
field_low s t = refl

field_top : (s : Bool) → of_fields binary64 s 2047 0 ≡ inf s
unfolding of_fields
field_top s = refl

field_mid : (s : Bool) (x t : ℕ) → suc x < 2047 → of_fields binary64 s (suc x) t ≡ odd 53 s (2 ^ 52 + t) x 1074
unfolding of_fields
field_mid s x t h = ap (λ (b : Bool). cond b (cond (eqb t 0) (inf s) nan) (odd 53 s (2 ^ 52 + t) x 1074)) (ne_eqb (suc x) 2047 (λ e. omega arith))

pub value_low : (s : Bool) (a : ℕ) → a / 2 ^ 52 ≡ 0 → HasValue (of_bits binary64 (signed s a)) s (a % 2 ^ 52 * 2 ^ 0) (2 ^ 1074)
value_low s a z =
    subst (λ (v : Float). HasValue v s (a % 2 ^ 52 * 2 ^ 0) (2 ^ 1074))
    (sym (fields s a (omega arith) ∙ ap (λ (x : ℕ). of_fields binary64 s x (a % 2 ^ 52)) z ∙ field_low s (a % 2 ^ 52)))
    (odd_sign 53 s (a % 2 ^ 52) 0 1074)

pub value_mid : (s : Bool) (a : ℕ) → 0 < a / 2 ^ 52 → a / 2 ^ 52 < 2047 → HasValue (of_bits binary64 (signed s a)) s ((2 ^ 52 + a % 2 ^ 52) * 2 ^ (a / 2 ^ 52 - 1)) (2 ^ 1074)
value_mid s a l u =
    subst (λ (v : Float). HasValue v s ((2 ^ 52 + a % 2 ^ 52) * 2 ^ (a / 2 ^ 52 - 1)) (2 ^ 1074))
    (sym (fields s a (omega arith) ∙ ap (λ (x : ℕ). of_fields binary64 s x (a % 2 ^ 52)) (back (a / 2 ^ 52) l) ∙ field_mid s (a / 2 ^ 52 - 1) (a % 2 ^ 52) (omega arith)))
    (odd_sign 53 s (2 ^ 52 + a % 2 ^ 52) (a / 2 ^ 52 - 1) 1074)
  where
    back : (x : ℕ) → 0 < x → x ≡ suc (x - 1)
    back x h = omega arith

pub value_top : (s : Bool) → of_bits binary64 (signed s 0x7ff0_0000_0000_0000) ≡ inf s
value_top s = fields s 0x7ff0_0000_0000_0000 (omega arith) ∙ field_top s
