-- Squares, and the root cut to a whole number.
use Prim.Native.Nat.{ℕ, zero, suc, ◌+◌, ◌*◌, ◌/◌, ◌^◌, ◌≤◌, ◌<◌}
use native.Mathlib.Nat.{le_trans, le_of_eq, lt_of_lt_of_le, lt_of_not-le, not-le_of_lt, mul_assoc, mul_comm, mul_left_comm, mul-pos, mul-le-mul, mul-le-mul_left, mul-one, add-mul, mul-add, pow-suc, pow-succ'}
use native.Mathlib.Omega.{arith}
use mathlib.Core.Path.{◌≡◌, refl, sym, ap, ◌∙◌, subst}
use mathlib.Core.Bool.{Bool, true, false, cond}
use lib.Dec.{leb}
use lib.Pow.{pow_pos}
use lib.Ieee.{size}
use lib.Ieee.Digits.{size-lt}
use borrow.Author.Tests.{leb-true, leb-false}
use Rattle.level.specs.Root.{up_to, cut_root, whole_root}

-- ---- squares of a product, of an even number, of an odd one and of the next one
pub squared : (a b : ℕ) → a * b * (a * b) ≡ a * a * (b * b)
squared a b = simp (mul_assoc, mul_left_comm)

pub even_square : (r : ℕ) → 2 * r * (2 * r) ≡ 4 * (r * r)
even_square r = squared 2 r

pub odd_square : (r : ℕ) → (2 * r + 1) * (2 * r + 1) ≡ 4 * (r * r) + 4 * r + 1
odd_square r = add-mul (2 * r) 1 (2 * r + 1) ∙ ap (λ (x : ℕ). x + 1 * (2 * r + 1)) (mul-add (2 * r) (2 * r) 1 ∙ ap (λ (x : ℕ). x + 2 * r * 1) (even_square r)) ∙ plain r (r * r)
  where
    plain : (r s : ℕ) → 4 * s + 2 * r * 1 + 1 * (2 * r + 1) ≡ 4 * s + 4 * r + 1
    plain r s = omega arith

next_square : (r : ℕ) → (r + 1) * (r + 1) ≡ r * r + 2 * r + 1
next_square r = add-mul r 1 (r + 1) ∙ ap (λ (x : ℕ). x + 1 * (r + 1)) (mul-add r r 1) ∙ plain r (r * r)
  where
    plain : (r s : ℕ) → s + r * 1 + 1 * (r + 1) ≡ s + 2 * r + 1
    plain r s = omega arith

pub under_next : (r rest : ℕ) → rest ≤ 2 * r → r * r + rest < (r + 1) * (r + 1)
under_next r rest l = go (r * r) ((r + 1) * (r + 1)) (next_square r)
  where
    go : (s t : ℕ) → t ≡ s + 2 * r + 1 → s + rest < t
    go s t e = omega arith

pub square_le : (a b : ℕ) → a ≤ b → a * a ≤ b * b
square_le a b h = mul-le-mul h h

-- ---- powers of four
pub four_pow : (k : ℕ) → 4 ^ k ≡ 2 ^ k * 2 ^ k
four_pow zero = refl
four_pow (suc k) = pow-suc 4 k ∙ mul_comm (4 ^ k) 4 ∙ ap (λ (x : ℕ). 4 * x) (four_pow k) ∙ sym (even_square (2 ^ k)) ∙ ap (λ (x : ℕ). x * x) (sym (pow-succ' 2 k))

pub scaled_square : (a k : ℕ) → a * 2 ^ k * (a * 2 ^ k) ≡ a * a * 4 ^ k
scaled_square a k = squared a (2 ^ k) ∙ ap (λ (x : ℕ). a * a * x) (sym (four_pow k))

pub four_pow_pos : (k : ℕ) → 0 < 4 ^ k
four_pow_pos k = subst (λ (x : ℕ). 0 < x) (sym (four_pow k)) (mul-pos (pow_pos k) (pow_pos k))

-- ---- w is the root of n, cut to a whole number
abbrev Cut : ℕ → ℕ → Type 0
Cut n w = (w * w ≤ n) × (n < (w + 1) * (w + 1))

up_to_lem : (n w : ℕ) → Cut (n / 4) w → Cut n (up_to n (2 * w))
up_to_lem n w h = go (leb ((2 * w + 1) * (2 * w + 1)) n) refl
  where
    lo : (s t : ℕ) → s ≤ n / 4 → t ≡ 4 * s → t ≤ n
    lo s t a b = omega arith

    hi : (s t : ℕ) → n / 4 < s → t ≡ 4 * s → n < t
    hi s t a b = omega arith

    next : (w : ℕ) → 2 * w + 1 + 1 ≡ 2 * (w + 1)
    next w = omega arith

    go : (b : Bool) → leb ((2 * w + 1) * (2 * w + 1)) n ≡ b → Cut n (cond b (2 * w + 1) (2 * w))
    go true e = (leb-true _ _ e, subst (λ (x : ℕ). n < x * x) (sym (next w)) (hi ((w + 1) * (w + 1)) (2 * (w + 1) * (2 * (w + 1))) h.1 (even_square (w + 1))))
    go false e = (lo (w * w) (2 * w * (2 * w)) h.0 (even_square w), leb-false _ _ e)

cut_root_lem : (k n : ℕ) → n < 4 ^ k → Cut n (cut_root k n)
unfolding cut_root
cut_root_lem zero n h = (omega arith, h)
cut_root_lem (suc k) n h = up_to_lem n (cut_root k (n / 4)) (cut_root_lem k (n / 4) (quarter n (4 ^ k) (4 ^ suc k) (pow-suc 4 k) h))
  where
    quarter : (n x y : ℕ) → y ≡ x * 4 → n < y → n / 4 < x
    quarter n x y e h = omega arith

pub whole_root_lem : (n : ℕ) → Cut n (whole_root n)
unfolding whole_root
whole_root_lem n = cut_root_lem (size n) n (lt_of_lt_of_le (size-lt n) (le_trans (le_of_eq (sym (mul-one (2 ^ size n)))) (le_trans (mul-le-mul_left (2 ^ size n) (pow_pos (size n))) (le_of_eq (sym (four_pow (size n)))))))

pub root_ge : (n a : ℕ) → a * a ≤ n → a ≤ whole_root n
root_ge n a l = lt_suc (lt_of_not-le (λ (g : whole_root n + 1 ≤ a). not-le_of_lt (whole_root_lem n).1 (le_trans (square_le (whole_root n + 1) a g) l)))
  where
    lt_suc : {a b : ℕ} → a < b + 1 → a ≤ b
    lt_suc h = omega arith

pub root_lt : (n a : ℕ) → n < a * a → whole_root n < a
root_lt n a l = lt_of_not-le (λ (g : a ≤ whole_root n). not-le_of_lt l (le_trans (square_le a (whole_root n) g) (whole_root_lem n).0))
