-- The numbers of P + 1 binary digits times a power of two.
use Prim.Native.Nat.{ℕ, suc, ◌+◌, ◌-◌, ◌*◌, ◌^◌, ◌≤◌, ◌<◌}
use native.Mathlib.Nat.{le_trans, le_of_eq, le_of_lt, lt_of_lt_of_le, not-le_of_lt, lt_of_mul-lt-mul_right, mul_assoc, mul-le-mul_right}
use native.Mathlib.Omega.{arith}
use mathlib.Core.Path.{◌≡◌, sym, ap, ◌∙◌}
use mathlib.Core.Logic.{◌⊎◌, inl, inr}
use lib.Pow.{pow-add, pow_mono}
use lib.Ieee.Digits.{back}
use Rattle.level.proofs.Pack.{or_less}

-- between r * 2 ^ k and (r + 1) * 2 ^ k there is none, for an r that has P + 1 digits, or a k of 0
pub gap : (P r k q j : ℕ) → (k ≡ 0) ⊎ (2 ^ P ≤ r) → q < 2 ^ suc P → r * 2 ^ k < q * 2 ^ j → (r + 1) * 2 ^ k ≤ q * 2 ^ j
gap P r k q j big small h = go (or_less k j)
  where
    low : k ≡ 0 → j < k → ⊥
    low e l = omega arith

    more : suc P + j ≤ P + k → (k ≡ 0) ⊎ (2 ^ P ≤ r) → j < k → ⊥
    more u (inl e) l = low e l
    more u (inr b) l =
        not-le_of_lt h
        (le_trans (mul-le-mul_right (2 ^ j) (le_of_lt small))
        (le_trans (le_of_eq (sym (pow-add 2 (suc P) j))) (le_trans (pow_mono u) (le_trans (le_of_eq (pow-add 2 P k)) (mul-le-mul_right (2 ^ k) b)))))

    go : (k ≤ j) ⊎ (j < k) → (r + 1) * 2 ^ k ≤ q * 2 ^ j
    go (inl l) =
        let e : q * 2 ^ j ≡ q * 2 ^ (j - k) * 2 ^ k = ap (λ (x : ℕ). q * 2 ^ x) (sym (back j k l)) ∙ ap (λ (x : ℕ). q * x) (pow-add 2 (j - k) k) ∙ sym (mul_assoc q (2 ^ (j - k)) (2 ^ k)) in
        let s : r < q * 2 ^ (j - k) = lt_of_mul-lt-mul_right (2 ^ k) (lt_of_lt_of_le h (le_of_eq e)) in
        let t : r + 1 ≤ q * 2 ^ (j - k) = omega arith in
        le_trans (mul-le-mul_right (2 ^ k) t) (le_of_eq (sym e))
    go (inr l) = absurd (more (omega arith) big l)
