-- The root's digits and its bits: `rounded` from any 53 digits that the root lies at, and the digits that `root_digits` finds.
use Prim.Native.Nat.{ℕ, zero, suc, ◌+◌, ◌-◌, ◌*◌, ◌/◌, ◌%◌, ◌^◌, ◌≤◌, ◌<◌}
use native.Mathlib.Nat.{le_trans, le_of_eq, lt_of_lt_of_le, lt_of_le_of_lt, lt_of_mul-lt-mul_left, eq_of_mul-eq-mul_right, mul_assoc, mul_left_comm, mul_right_comm, mul-le-mul, mul-le-mul_right, mul-lt-mul_of_pos_right, zero-add, le-add_right, div-eq_of_lt-le}
use native.Mathlib.Omega.{arith}
use mathlib.Core.Path.{◌≡◌, refl, sym, ap, ◌∙◌}
use mathlib.Core.Logic.{inr}
use mathlib.Core.Bool.{Bool, false, cond}
use lib.Dec.{lit<, lit≤}
use lib.Pow.{pow-add, pow_pos, pow_mono}
use lib.Ieee.{binary64, size, units, of_bits}
use borrow.Author.Tests.{lt-ltb, le-ltb}
use Rattle.level.specs.Digits.{Rooted}
use Rattle.level.specs.Root.{whole_root, nearer, rounded, root_of}
use Rattle.level.proofs.Pack.{size_above, units_bits}
use Rattle.level.proofs.Squares.{odd_square, under_next, scaled_square, four_pow, four_pow_pos, root_ge, root_lt}
use Rattle.level.proofs.Turns.{pow4_back}

-- r has 53 digits, and the root of n lies from r * 2 ^ k up to (r + 1) * 2 ^ k
pub record At (n r k : ℕ) : Type 0 where
  pub big : 2 ^ 52 ≤ r
  pub small : r < 2 ^ 53
  pub lo : r * 2 ^ k * (r * 2 ^ k) ≤ n
  pub hi : n < (r + 1) * 2 ^ k * ((r + 1) * 2 ^ k)

pub rounded_at : (n r k : ℕ) → At n r k → rounded n ≡ units binary64 false (nearer n r k) k
unfolding rounded
rounded_at n r k A = ap (λ (x : ℕ). units binary64 false (nearer n (w / 2 ^ x) x) x) dropped ∙ ap (λ (x : ℕ). units binary64 false (nearer n x k) k) kept
  where
    w : ℕ
    w = whole_root n

    from : r * 2 ^ k ≤ w
    from = root_ge n (r * 2 ^ k) A.lo

    to : w < (r + 1) * 2 ^ k
    to = root_lt n ((r + 1) * 2 ^ k) A.hi

    less : (z : ℕ) → z ≡ suc (52 + k) → z - 53 ≡ k
    less z e = omega arith

    next : r + 1 ≤ 2 ^ 53
    next = let s = A.small in omega arith

    dropped : size w - 53 ≡ k
    dropped = less (size w) (size_above 52 w k (le_trans (mul-le-mul_right (2 ^ k) A.big) from) (lt_of_lt_of_le to (mul-le-mul_right (2 ^ k) next)))

    kept : w / 2 ^ k ≡ r
    kept = div-eq_of_lt-le (2 ^ k) from to

-- ---- which of the two is nearer, in digits: (2 * r + 1) ^ 2 against 4 * n
pub halfway : (r k : ℕ) → (2 * r + 1) * 2 ^ k * ((2 * r + 1) * 2 ^ k) ≡ (4 * (r * r) + 4 * r + 1) * 4 ^ k
halfway r k = scaled_square (2 * r + 1) k ∙ ap (λ (x : ℕ). x * 4 ^ k) (odd_square r)

module _ (n r rest k : ℕ) (n_is : n ≡ (r * r + rest) * 4 ^ k) where
  four_n : 4 * n ≡ 4 * (r * r + rest) * 4 ^ k
  four_n = ap (λ (x : ℕ). 4 * x) n_is ∙ sym (mul_assoc 4 (r * r + rest) (4 ^ k))

  pub nearer_up : r < rest → nearer n r k ≡ r + 1
  nearer_up h = ap (λ (b : Bool). cond b (r + 1) r) (lt-ltb _ _ (lt_of_le_of_lt (le_of_eq (halfway r k)) (lt_of_lt_of_le (mul-lt-mul_of_pos_right (more (r * r)) (four_pow_pos k)) (le_of_eq (sym four_n)))))
    where
      more : (s : ℕ) → 4 * s + 4 * r + 1 < 4 * (s + rest)
      more s = omega arith

  pub nearer_down : rest ≤ r → nearer n r k ≡ r
  nearer_down h = ap (λ (b : Bool). cond b (r + 1) r) (le-ltb _ _ (le_trans (le_of_eq four_n) (le_trans (mul-le-mul_right (4 ^ k) (less (r * r))) (le_of_eq (sym (halfway r k))))))
    where
      less : (s : ℕ) → 4 * (s + rest) ≤ 4 * s + 4 * r + 1
      less s = omega arith

  pub digits_at : 2 ^ 52 ≤ r → r < 2 ^ 53 → rest ≤ 2 * r → At n r k
  digits_at big small left = record {
    big = big;
    small = small;
    lo = le_trans (le_of_eq (scaled_square r k)) (le_trans (mul-le-mul_right (4 ^ k) (le-add_right (r * r) rest)) (le_of_eq (sym n_is)));
    hi = lt_of_le_of_lt (le_of_eq n_is) (lt_of_lt_of_le (mul-lt-mul_of_pos_right (under_next r rest left) (four_pow_pos k)) (le_of_eq (sym (scaled_square (r + 1) k))));
  }

-- ---- 2 ^ e in powers of four
parity : (e : ℕ) → 2 ^ e ≡ (1 + e % 2) * 4 ^ (e / 2)
parity e =
    ap (λ (x : ℕ). 2 ^ x) (halves e) ∙ pow-add 2 (e % 2) (e / 2 + e / 2)
    ∙ ap (λ (x : ℕ). 2 ^ (e % 2) * x) (pow-add 2 (e / 2) (e / 2) ∙ sym (four_pow (e / 2))) ∙ ap (λ (x : ℕ). x * 4 ^ (e / 2)) (small (e % 2) (omega arith))
  where
    halves : (e : ℕ) → e ≡ e % 2 + (e / 2 + e / 2)
    halves e = omega arith

    no : (p : ℕ) → suc (suc p) < 2 → ⊥
    no p h = omega arith

    small : (p : ℕ) → p < 2 → 2 ^ p ≡ 1 + p
    small zero l = refl
    small (suc zero) l = refl
    small (suc (suc p)) l = absurd (no p l)

-- ---- `root_bits`
module _ (m e r rest n : ℕ) (M : 0 < m) (m-lt : m < 2 ^ 53) (e-lt : e < 2046) (R : Rooted (m * 1024 * (1 + e % 2)) r rest n) where
  pub turns : n < 80
  turns =
      let r-le : r + 1 ≤ 2 ^ 53 = let l = R.small in omega arith in
      let o : 1 ≤ 1 + e % 2 = omega arith in
      let a : 1 * 1024 * 1 ≤ m * 1024 * (1 + e % 2) = mul-le-mul (mul-le-mul_right 1024 M) o in
      pow4_back n 80 (lt_of_mul-lt-mul_left 1024
      (lt_of_le_of_lt (mul-le-mul_right (4 ^ n) a)
      (lt_of_le_of_lt (le_of_eq (sym R.sum))
      (lt_of_lt_of_le (mul-lt-mul_of_pos_right (lt_of_lt_of_le (under_next r rest R.left) (mul-le-mul r-le r-le)) (pow_pos 64)) (lit≤ tt)))))

  abbrev k : ℕ
  k = e / 2 + 564 - n

  -- the number whose root `root_of` rounds is what was found, times 4 ^ k
  found : m * 2 ^ e * 2 ^ 1074 ≡ (r * r + rest) * 4 ^ k
  found = eq_of_mul-eq-mul_right (2 ^ 64) (pow_pos 64) (m * 2 ^ e * 2 ^ 1074) ((r * r + rest) * 4 ^ k)
      (ap (λ (x : ℕ). m * x * 2 ^ 1074 * 2 ^ 64) (parity e)
      ∙ outer m (1 + e % 2) (4 ^ (e / 2)) (2 ^ 1074) (2 ^ 64)
      ∙ sym (inner m 1024 (1 + e % 2) (4 ^ (e / 2)) (4 ^ 564))
      ∙ ap (λ (x : ℕ). m * 1024 * (1 + e % 2) * x) (sym (pow-add 4 (e / 2) 564) ∙ ap (λ (x : ℕ). 4 ^ x) count ∙ pow-add 4 n k)
      ∙ sym (mul_assoc (m * 1024 * (1 + e % 2)) (4 ^ n) (4 ^ k))
      ∙ ap (λ (x : ℕ). x * 4 ^ k) (sym R.sum)
      ∙ mul_right_comm (r * r + rest) (2 ^ 64) (4 ^ k))
    where
      outer : (m p h c d : ℕ) → m * (p * h) * c * d ≡ m * p * h * (c * d)
      outer m p h c d = simp mul_assoc

      inner : (m a p h b : ℕ) → m * a * p * (h * b) ≡ m * p * h * (a * b)
      inner m a p h b = simp (mul_assoc, mul_left_comm)

      count : e / 2 + 564 ≡ n + (e / 2 + 564 - n)
      count = let t = turns in omega arith

  at : At (m * 2 ^ e * 2 ^ 1074) r k
  at = digits_at (m * 2 ^ e * 2 ^ 1074) r rest k found R.big R.small R.left

  bits : (q : ℕ) → nearer (m * 2 ^ e * 2 ^ 1074) r k ≡ q → r ≤ q → q ≤ 2 ^ 53 → of_bits binary64 (k * 2 ^ 52 + q) ≡ root_of (m * 2 ^ e)
  unfolding root_of
  bits q e' l u =
      let k-le : k ≤ 1600 = omega arith in
      ap (of_bits binary64) (sym (zero-add (k * 2 ^ 52 + q)))
      ∙ units_bits binary64 false q k u (inr (le_trans R.big l)) (lt_of_le_of_lt (mul-le-mul u (pow_mono k-le)) (lit< tt))
      ∙ ap (λ (x : ℕ). units binary64 false x k) (sym e')
      ∙ sym (rounded_at (m * 2 ^ e * 2 ^ 1074) r k at)

  pub bits_up : r < rest → of_bits binary64 ((e / 2 + 564 - n) * 2 ^ 52 + (r + 1)) ≡ root_of (m * 2 ^ e)
  bits_up h = let s = R.small in bits (r + 1) (nearer_up (m * 2 ^ e * 2 ^ 1074) r rest k found h) (omega arith) (omega arith)

  pub bits_same : rest ≤ r → of_bits binary64 ((e / 2 + 564 - n) * 2 ^ 52 + r) ≡ root_of (m * 2 ^ e)
  bits_same h = let s = R.small in bits r (nearer_down (m * 2 ^ e * 2 ^ 1074) r rest k found h) (omega arith) (omega arith)
