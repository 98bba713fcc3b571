-- The level of a block: the square of an f32 has at most 48 digits, so that an f64 holds it, and no square is rounded.
use Prim.Native.Nat.{ℕ, zero, suc, ◌+◌, ◌-◌, ◌*◌, ◌%◌, ◌^◌, ◌≤◌, ◌<◌}
use native.Mathlib.Nat.{le_refl, le_trans, le_of_eq, le_of_lt, lt_of_lt_of_le, lt_of_le_of_lt, lt_of_not-le, not-le_of_lt, lt_of_mul-lt-mul_right, mul_right_comm, mul-pos, mul-le-mul, mul-lt-mul_of_pos_right, zero-mul, one-mul, mul-one}
use native.Mathlib.Omega.{arith}
use mathlib.Core.Path.{◌≡◌, refl, sym, ap, ◌∙◌, subst}
use mathlib.Core.Logic.{inl, inr}
use mathlib.Core.Bool.{Bool, true, false, ◌&&◌}
use mathlib.Core.List.{List, [], ◌∷◌}
use lib.Dec.{T, ltb, leb, eqb, ltb→lt, lt→ltb, leb→le, lit<}
use lib.IntN.{ℤ, pos, negsuc}
use lib.ListN.{length}
use lib.Pow.{pow-add, pow_pos, pow_mono, pow-lt}
use lib.Ieee.{Float, nan, inf, fin, binary32, binary64, up, down, fits, mul, add, div, of_int, round, unlike}
use lib.Ieee.Digits.{back}
use lib.Ieee.Fits.{and_l, and_r, down_pos}
use lib.Ieee.Exact.{HasValue, round_exact}
use Rattle.lists.specs.Member.{In}
use Rattle.level.specs.Root.{sqrt}
use Rattle.level.specs.Narrow.{narrow}
use Rattle.level.specs.Level.{plus_zero, squares, level_of}
use Rattle.level.proofs.NearestRoot.{nearest_root}
use Rattle.level.proofs.NearestEven.{narrow_nearest}
use Rattle.rules.specs.Sound.{IsSquare, SumOfSquares, LevelLaw}

-- ---- what an f32 above or below 0 has to fit
record Held (m : ℕ) (e : ℤ) : Type 0 where
  pub small : m < 2 ^ 24
  pub not_low : down e ≤ 2 ^ 149
  pub not_high : m * up e < 2 ^ 128 * down e

held : (s : Bool) (m : ℕ) (e : ℤ) → T (fits binary32 (fin s (suc m) e)) → Held (suc m) e
unfolding fits
held s m e t =
    let a : Bool = eqb (suc m % 2) 1 in
    let b : Bool = ltb (suc m) (2 ^ 24) in
    let c : Bool = leb (down e) (2 ^ 149) in
    let d : Bool = ltb (suc m * up e) (2 ^ 128 * down e) in
    record {
      small = ltb→lt (suc m) (2 ^ 24) (and_r a b (and_l (a && b) c (and_l (a && b && c) d t)));
      not_low = leb→le (down e) (2 ^ 149) (and_r (a && b) c (and_l (a && b && c) d t));
      not_high = ltb→lt (suc m * up e) (2 ^ 128 * down e) (and_r (a && b && c) d t);
    }

-- its exponent, as one of the smallest f32
record Lifted (e : ℤ) : Type 0 where
  pub j : ℕ
  pub is : up e * 2 ^ 149 ≡ 2 ^ j * down e

lifted : (e : ℤ) → down e ≤ 2 ^ 149 → Lifted e
lifted (pos k) h = record { j = k + 149; is = sym (pow-add 2 k 149) ∙ sym (mul-one (2 ^ (k + 149))) }
lifted (negsuc k) h =
    let l : suc k ≤ 149 = lt_of_not-le (λ (g : 149 ≤ k). not-le_of_lt (lt_pow k) (le_trans h (pow_mono g))) in
    record { j = 149 - suc k; is = one-mul (2 ^ 149) ∙ ap (λ (x : ℕ). 2 ^ x) (sym (back 149 (suc k) l)) ∙ pow-add 2 (149 - suc k) (suc k) }
  where
    lt_pow : (k : ℕ) → 2 ^ k < 2 ^ suc k
    lt_pow k = pow-lt (le_refl (suc k))

-- ---- its square, as a number of the smallest f64
scaled : (m u d p a b : ℕ) → u * a ≡ p * d → m * u * (m * u) * (a * a * b) ≡ m * m * (p * p * b) * (d * d)
scaled m u d p a b h =
    let k : m * m * b * (u * a * (u * a)) ≡ m * m * b * (p * d * (p * d)) = ap (λ x. m * m * b * (x * x)) h in
    omega (arith, k)

square_lt : (a b : ℕ) → a < b → a * a < b * b
square_lt a b h = let z : 0 < b = omega arith in lt_of_le_of_lt (mul-le-mul (le_refl a) (le_of_lt h)) (mul-lt-mul_of_pos_right h z)

below_some : (m : ℕ) → m < 2 ^ 24 → m * m < 2 ^ 53
below_some m h =
    let more : 48 ≤ 53 = omega arith in
    let is : 2 ^ 24 * 2 ^ 24 ≡ 2 ^ 48 = refl in
    lt_of_lt_of_le (square_lt m (2 ^ 24) h) (le_trans (le_of_eq is) (pow_mono more))

even_sign : (s : Bool) → unlike s s ≡ false
even_sign true = refl
even_sign false = refl

square_of : (s : Bool) (m : ℕ) (e : ℤ) → Held m e → HasValue (round binary64 false (m * up e * (m * up e)) (down e * down e)) false (m * up e * (m * up e)) (down e * down e)
square_of s m e f =
    let l = lifted e f.not_low in
    let den = down e * down e in
    let k = l.j + l.j + 776 in
    let some : 0 < den = mul-pos (down_pos e) (down_pos e) in
    let power : 2 ^ l.j * 2 ^ l.j * 2 ^ 776 ≡ 2 ^ k = ap (λ x. x * 2 ^ 776) (sym (pow-add 2 l.j l.j)) ∙ sym (pow-add 2 (l.j + l.j) 776) in
    let whole : 2 ^ 149 * 2 ^ 149 * 2 ^ 776 ≡ 2 ^ 1074 = refl in
    let is : m * up e * (m * up e) * 2 ^ 1074 ≡ m * m * 2 ^ k * den =
    ap (λ x. m * up e * (m * up e) * x) (sym whole) ∙ scaled m (up e) (down e) (2 ^ l.j) (2 ^ 149) (2 ^ 776) l.is ∙ ap (λ x. m * m * x * den) power in
    let high : m * up e * (m * up e) < 2 ^ 128 * down e * (2 ^ 128 * down e) = square_lt (m * up e) (2 ^ 128 * down e) f.not_high in
    let fine : m * m * 2 ^ k < 2 ^ 2098 = bound (m * m * 2 ^ k) den (m * up e * (m * up e)) some is (lt_of_lt_of_le high (le_of_eq (spread (down e)))) in
    round_exact binary64 false (m * up e * (m * up e)) den (m * m) k some (below_some m f.small) fine is
  where
    two_of : (p d : ℕ) → p * d * (p * d) ≡ p * p * (d * d)
    two_of p d = omega arith

    spread : (d : ℕ) → 2 ^ 128 * d * (2 ^ 128 * d) ≡ 2 ^ 256 * (d * d)
    spread d = let e : 2 ^ 128 * 2 ^ 128 ≡ 2 ^ 256 = refl in two_of (2 ^ 128) d ∙ ap (λ x. x * (d * d)) e

    bound : (q den num : ℕ) → 0 < den → num * 2 ^ 1074 ≡ q * den → num < 2 ^ 256 * den → q < 2 ^ 2098
    bound q den num some is h =
        let e : 2 ^ 256 * 2 ^ 1074 ≡ 2 ^ 1330 = refl in
        let k : num * 2 ^ 1074 < 2 ^ 256 * den * 2 ^ 1074 = mul-lt-mul_of_pos_right h (pow_pos 1074) in
        let z : 2 ^ 256 * den * 2 ^ 1074 ≡ 2 ^ 1330 * den = mul_right_comm (2 ^ 256) den (2 ^ 1074) ∙ ap (λ x. x * den) e in
        let more : 1330 ≤ 2098 = omega arith in
        lt_of_lt_of_le (lt_of_mul-lt-mul_right den (lt_of_le_of_lt (le_of_eq (sym is)) (lt_of_lt_of_le k (le_of_eq z)))) (pow_mono more)

zero_square : (e : ℤ) → HasValue (round binary64 false (0 * up e * (0 * up e)) (down e * down e)) false (0 * up e * (0 * up e)) (down e * down e)
zero_square e =
    let none : 0 * up e * (0 * up e) ≡ 0 = omega arith in
    let num : 0 * up e * (0 * up e) * 2 ^ 1074 ≡ 0 = ap (λ x. x * 2 ^ 1074) none ∙ zero-mul (2 ^ 1074) in
    round_exact binary64 false (0 * up e * (0 * up e)) (down e * down e) 0 0 (mul-pos (down_pos e) (down_pos e)) (lit< tt) (lit< tt) (num ∙ sym (zero-mul (down e * down e)))

-- ---- the square of any f32 is exact in f64
square : (x : Float) → T (fits binary32 x) → IsSquare x (mul binary64 x x)
unfolding mul
square nan t = refl
square (inf s) t = ap inf (even_sign s)
square (fin s zero e) t =
    subst (λ z. HasValue (round binary64 z (0 * up e * (0 * up e)) (down e * down e)) false (0 * up e * (0 * up e)) (down e * down e)) (sym (even_sign s)) (zero_square e)
square (fin s (suc m) e) t =
    subst (λ z. HasValue (round binary64 z (suc m * up e * (suc m * up e)) (down e * down e)) false (suc m * up e * (suc m * up e)) (down e * down e))
    (sym (even_sign s)) (square_of s (suc m) e (held s m e t))

summed : (a : Float) (xs : List Float) → ((x : Float) → In x xs → T (fits binary32 x)) → SumOfSquares a xs (squares a xs)
unfolding squares
summed a [] h = refl
summed a (x ∷ xs) h = (mul binary64 x x, square x (h x (inl refl)), summed (add binary64 a (mul binary64 x x)) xs (λ y i. h y (inr i)))

level : (xs : List Float) → ((x : Float) → In x xs → T (fits binary32 x))
    → (z : Float) × SumOfSquares (fin false 0 (pos 0)) xs z × (level_of xs ≡ narrow (sqrt (div binary64 z (of_int binary64 (pos (length xs))))))
unfolding level_of
level xs h = (squares plus_zero xs, summed plus_zero xs h, refl)

positive : (m : ℕ) → 0 < m → T (ltb 0 m)
positive m h = lt→ltb 0 m h

root_else : (sqrt nan ≡ nan) × (sqrt (inf false) ≡ inf false) × ((s : Bool) (e : ℤ) → sqrt (fin s 0 e) ≡ fin s 0 e)
unfolding sqrt
root_else = (refl, refl, λ s e. refl)

narrowed_else : (narrow nan ≡ nan) × ((s : Bool) → narrow (inf s) ≡ inf s)
unfolding narrow
narrowed_else = (refl, λ s. refl)

pub level_law : LevelLaw
level_law = record {
  level = level;
  root = λ m e h t. nearest_root (fin false m e) t (positive m h);
  root_else = root_else;
  narrowed = λ s m e. narrow_nearest s m e;
  narrowed_else = narrowed_else;
}
