-- The loop of `root_digits` on plain numbers: one digit of the root a turn, and what its end says.
use Prim.Native.Nat.{ℕ, ◌+◌, ◌-◌, ◌*◌, ◌/◌, ◌%◌, ◌^◌, ◌≤◌, ◌<◌}
use native.Mathlib.Nat.{le_trans, le_of_eq, le_of_lt, lt_of_lt_of_le, lt_of_le_of_lt, lt_of_not-le, not-le_of_lt, mul_assoc, mul_comm, one-mul, mul-le-mul, mul-le-mul_right, pow-suc, pow-le-pow_right}
use native.Mathlib.Numerals.{add-one}
use native.Mathlib.Omega.{arith}
use mathlib.Core.Path.{◌≡◌, sym, ap, ◌∙◌}
use lib.Dec.{lit<, lit≤}
use lib.Pow.{pow-add}
use lib.Ieee.Digits.{back}
use Rattle.level.specs.Digits.{Rooted}
use Rattle.level.proofs.Squares.{even_square, odd_square}

-- the root of the digits of a that were taken, what its square leaves, and the digits that are still to come, m
pub record Found (a m root rest turns : ℕ) : Type 0 where
  pub fits : m < 2 ^ 64
  pub small : root < 2 ^ 53
  pub left : rest ≤ 2 * root
  pub sum : (root * root + rest) * 2 ^ 64 + m ≡ a * 4 ^ turns

four_times : (a n : ℕ) → a * 4 ^ (n + 1) ≡ a * 4 ^ n * 4
four_times a n = ap (λ (x : ℕ). a * 4 ^ x) (add-one n) ∙ ap (λ (x : ℕ). a * x) (pow-suc 4 n) ∙ sym (mul_assoc a (4 ^ n) 4)

module _ (a m r rest n : ℕ) (F : Found a m r rest n) (go_on : r < 2 ^ 52) where
  pub zero_digit : rest * 4 + m / 2 ^ 62 < r * 4 + 1 → Found a (m % 2 ^ 62 * 4) (r * 2) (rest * 4 + m / 2 ^ 62) (n + 1)
  zero_digit h =
      record { fits = omega arith; small = omega arith; left = omega arith; sum = sums (r * 2 * (r * 2)) (ap (λ (x : ℕ). x * x) (mul_comm r 2) ∙ even_square r) (a * 4 ^ (n + 1)) (four_times a n) }
    where
      sums : (s : ℕ) → s ≡ 4 * (r * r) → (x : ℕ) → x ≡ a * 4 ^ n * 4 → (s + (rest * 4 + m / 2 ^ 62)) * 2 ^ 64 + m % 2 ^ 62 * 4 ≡ x
      sums s e x f = let g = F.sum in omega arith

  pub one_digit : r * 4 + 1 ≤ rest * 4 + m / 2 ^ 62 → Found a (m % 2 ^ 62 * 4) (r * 2 + 1) (rest * 4 + m / 2 ^ 62 - (r * 4 + 1)) (n + 1)
  one_digit h =
      record { fits = omega arith; small = omega arith; left = omega arith; sum = sums ((r * 2 + 1) * (r * 2 + 1)) (ap (λ (x : ℕ). (x + 1) * (x + 1)) (mul_comm r 2) ∙ odd_square r) (a * 4 ^ (n + 1)) (four_times a n) }
    where
      sums : (s : ℕ) → s ≡ 4 * (r * r) + 4 * r + 1 → (x : ℕ) → x ≡ a * 4 ^ n * 4 → (s + (rest * 4 + m / 2 ^ 62 - (r * 4 + 1))) * 2 ^ 64 + m % 2 ^ 62 * 4 ≡ x
      sums s e x f = let g = F.sum in omega arith

-- ---- how many turns there are. `omega` takes no number of more than 38 digits, so the larger powers go by lemmas
pub pow4_back : (i p : ℕ) → 4 ^ i < 4 ^ p → i < p
pow4_back i p h = lt_of_not-le (λ (g : p ≤ i). not-le_of_lt h (pow-le-pow_right (lit< tt) g))

pub few : (a m r rest n : ℕ) → 0 < a → Found a m r rest n → r < 2 ^ 52 → n < 85
few a m r rest n A F h =
    let s : r * r ≤ 2 ^ 104 = mul-le-mul (le_of_lt h) (le_of_lt h) in
    let t : r * r + rest + 1 ≤ 2 ^ 105 = top (r * r) s F.left in
    pow4_back n 85 (lt_of_le_of_lt (at_least a (4 ^ n) A) (lt_of_lt_of_le (cut (r * r + rest) (a * 4 ^ n) F.fits F.sum) (le_trans (mul-le-mul_right (2 ^ 64) t) (lit≤ tt))))
  where
    top : (s : ℕ) → s ≤ 2 ^ 104 → rest ≤ 2 * r → s + rest + 1 ≤ 2 ^ 105
    top s a b = omega arith

    at_least : (a x : ℕ) → 0 < a → x ≤ a * x
    at_least a x A = le_trans (le_of_eq (sym (one-mul x))) (mul-le-mul_right x A)

    cut : (s x : ℕ) → m < 2 ^ 64 → s * 2 ^ 64 + m ≡ x → x < (s + 1) * 2 ^ 64
    cut s x h e = omega arith

many : (a m r rest n : ℕ) → a < 2 ^ 64 → Found a m r rest n → 2 ^ 52 ≤ r → 32 ≤ n
many a m r rest n A F h = lt_of_not-le (λ (g : n ≤ 31).
    let s : 2 ^ 104 ≤ r * r = mul-le-mul h h in
    let p : a * 4 ^ n ≤ 2 ^ 64 * 4 ^ 31 = mul-le-mul (le_of_lt A) (pow-le-pow_right (lit< tt) g) in
    not-le_of_lt (lit< tt) (le_trans (mul-le-mul_right (2 ^ 64) s) (le_trans (part (r * r) (a * 4 ^ n) F.sum) p)))
  where
    part : (s x : ℕ) → (s + rest) * 2 ^ 64 + m ≡ x → s * 2 ^ 64 ≤ x
    part s x c = omega arith

-- after 32 turns no digit of a is left
pub done : (a m r rest n : ℕ) → a < 2 ^ 64 → Found a m r rest n → 2 ^ 52 ≤ r → Rooted a r rest n
done a m r rest n A F h =
    let N : 32 ≤ n = many a m r rest n A F h in
    let e : a * 4 ^ n ≡ a * 4 ^ (n - 32) * 2 ^ 64 = ap (λ (x : ℕ). a * 4 ^ x) (sym (back n 32 N)) ∙ ap (λ (x : ℕ). a * x) (pow-add 4 (n - 32) 32) ∙ sym (mul_assoc a (4 ^ (n - 32)) (2 ^ 64)) in
    record { big = h; small = F.small; left = F.left; sum = whole (r * r) (a * 4 ^ n) (a * 4 ^ (n - 32)) F.fits F.sum e }
  where
    whole : (s x y : ℕ) → m < 2 ^ 64 → (s + rest) * 2 ^ 64 + m ≡ x → x ≡ y * 2 ^ 64 → (s + rest) * 2 ^ 64 ≡ x
    whole s x y a b c = omega arith
