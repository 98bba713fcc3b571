-- The fewest digits that hold a number are its decimal, for every number of digits.
use Prim.Native.Nat.{ℕ, zero, suc, ◌*◌, ◌-◌, ◌/◌, ◌%◌, ◌^◌, ◌≤◌, ◌<◌}
use native.Mathlib.Nat.{pow-suc, pow-le-pow_right}
use native.Mathlib.Omega.{arith}
use mathlib.Core.Path.{◌≡◌, refl, ap, ◌∙◌, subst}
use mathlib.Core.Bool.{Bool, true, false}
use mathlib.Core.List.{[], ◌∷◌}
use lib.Dec.{ltb}
use borrow.Author.Tests.{lt-ltb, le-ltb, ltb-true, ltb-false}
use Rattle.io.specs.Digits.{last_digits, hex_digit_ascii, IsDigitCount}
use Rattle.model.specs.Decimal.{digit, spelled, decimal}

-- a number of more digits than one is no less than the power
low : (k n : ℕ) → IsDigitCount 10 1 n (suc (suc k)) → 10 ^ k * 10 ≤ n
low k n f =
    let one : suc (suc k) - 1 ≡ suc k = omega arith in
    subst (λ (p : ℕ). p ≤ n) (ap (◌^◌ 10) one ∙ pow-suc 10 k) (f.2 (omega arith))

power : (k : ℕ) → 1 ≤ 10 ^ k
power k = pow-le-pow_right {n = 10} (omega arith) {i = 0} {j = k} (omega arith)

-- one digit fewer holds the tenth part
tenth : (k n : ℕ) → IsDigitCount 10 1 n (suc (suc k)) → IsDigitCount 10 1 (n / 10) (suc k)
tenth k n f = (omega arith, omega (arith, f.1, pow-suc 10 (suc k)), λ h. least k f)
  where
    least : (k : ℕ) → IsDigitCount 10 1 n (suc (suc k)) → 10 ^ (suc k - 1) ≤ n / 10
    least k f = let one : suc k - 1 ≡ k = omega arith in rw one (omega (arith, low k n f))

glyph_is : (d : ℕ) → d < 10 → hex_digit_ascii d ≡ digit d
glyph_is d h = rw (lt-ltb d 10 h)

spelled_is : (k places n : ℕ) → n < places → IsDigitCount 10 1 n k → last_digits 10 k n ≡ spelled places n
spelled_is zero places n h f = absurd (omega (arith, f.0))
spelled_is (suc k) zero n h f = absurd (omega arith)
spelled_is (suc zero) (suc places) n h f =
    let below : n < 10 = f.1 in
    let e : n % 10 ≡ n = omega arith in
    rw (lt-ltb n 10 below, e) (ap (λ (c : ℕ). c ∷ []) (glyph_is n below))
spelled_is (suc (suc k)) (suc places) n h f =
    let ten : 10 ≤ n = omega (arith, low k n f, power k) in
    let less : n / 10 < places = omega arith in
    let last : n % 10 < 10 = omega arith in
    rw (le-ltb n 10 ten, spelled_is (suc k) places (n / 10) less (tenth k n f), glyph_is (n % 10) last) refl

pub decimal_is : (k n : ℕ) → IsDigitCount 10 1 n k → last_digits 10 k n ≡ decimal n
decimal_is k n f = spelled_is k (suc n) n (omega arith) f

-- a number of 64 bits has no more than 20
pub most : (k n : ℕ) → n < 2 ^ 64 → IsDigitCount 10 1 n k → k ≤ 20
most k n h f = go (ltb 20 k) refl
  where
    go : (b : Bool) → ltb 20 k ≡ b → k ≤ 20
    go false e = ltb-false 20 k e
    go true e =
        let more : 20 < k = ltb-true 20 k e in
        let up : 10 ^ 20 ≤ 10 ^ (k - 1) =
        pow-le-pow_right {n = 10} (omega arith) {i = 20} {j = k - 1} (omega arith) in
        absurd (omega (arith, f.2 (omega arith)))
