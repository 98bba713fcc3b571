-- `sqrt` is the nearest binary64 value to the root (SPEC 11.1, 21.7): no other is as near, by the squares of the
-- numbers halfway.
use Prim.Native.Nat.{ℕ, zero, suc, ◌+◌, ◌-◌, ◌*◌, ◌/◌, ◌%◌, ◌^◌, ◌≤◌, ◌<◌}
use native.Mathlib.Nat.{le_refl, le_trans, le_of_eq, le_of_lt, lt_of_lt_of_le, lt_of_le_of_lt, lt_of_not-le, not-le_of_lt, lt_of_mul-lt-mul_right, eq_of_mul-eq-mul_right, eq-or-lt_of_le, mul_assoc, mul_right_comm, mul-pos, mul-le-mul, mul-le-mul_left, mul-le-mul_right, mul-lt-mul_of_pos_right, zero-mul, one-mul, mul-one, add-mul, div-mul-le_self, div-add-mod', mod-lt, le-div_iff_mul-le}
use native.Mathlib.Omega.{arith, by_contra}
use mathlib.Core.Path.{◌≡◌, refl, sym, ap, ◌∙◌, subst}
use mathlib.Core.Logic.{◌⊎◌, inl, inr}
use mathlib.Core.Bool.{Bool, true, false, cond, ◌&&◌}
use lib.Dec.{T, ltb, leb, eqb, ltb→lt, leb→le, lit<, lit≤}
use lib.IntN.{ℤ, pos, negsuc}
use lib.Pow.{pow-add, pow_pos, pow_mono, pow-lt}
use lib.Ieee.{Float, nan, inf, fin, binary64, up, down, size, units, fits}
use lib.Ieee.Digits.{size-lt, size_reaches, back}
use lib.Ieee.Fits.{and_l, and_r, down_pos, kept-lt}
use lib.Ieee.Exact.{HasValue, units_val}
use lib.Ieee.Positive.{positive}
use borrow.Author.Tests.{ltb-true, ltb-false}
use Rattle.level.specs.Root.{whole_root, nearer, root_of, sqrt, NearestRoot}
use Rattle.level.proofs.Pack.{pow_lt_back, units_held}
use Rattle.level.proofs.Grid.{gap}
use Rattle.level.proofs.Squares.{even_square, square_le, scaled_square, four_pow, four_pow_pos, whole_root_lem, root_ge}
use Rattle.level.proofs.Rooting.{At, rounded_at, halfway}
use Rattle.level.proofs.Signs.{sqrt_of}

-- ---- a binary64 value is q * 2 ^ j of the smallest ones, with a q of at most 53 digits
record Spread (b : ℕ) : Type 0 where
  pub q : ℕ
  pub j : ℕ
  pub small : q < 2 ^ 53
  pub is : b ≡ q * 2 ^ j

-- its exponent, as one of the smallest value
record Lifted (e : ℤ) : Type 0 where
  pub j : ℕ
  pub is : up e * 2 ^ 1074 ≡ 2 ^ j * down e

lifted : (e : ℤ) → down e ≤ 2 ^ 1074 → Lifted e
lifted (pos k) h = record { j = k + 1074; is = sym (pow-add 2 k 1074) ∙ sym (mul-one (2 ^ (k + 1074))) }
lifted (negsuc k) h =
    let l : suc k ≤ 1074 = lt_of_not-le (λ (g : 1074 ≤ k). not-le_of_lt (lt_pow k) (le_trans h (pow_mono g))) in
    record { j = 1074 - suc k; is = one-mul (2 ^ 1074) ∙ ap (λ (x : ℕ). 2 ^ x) (sym (back 1074 (suc k) l)) ∙ pow-add 2 (1074 - suc k) (suc k) }
  where
    lt_pow : (k : ℕ) → 2 ^ k < 2 ^ suc k
    lt_pow k = pow-lt (le_refl (suc k))

-- what a value that is above 0 has to fit
record Held (m : ℕ) (e : ℤ) : Type 0 where
  pub small : m < 2 ^ 53
  pub not_low : down e ≤ 2 ^ 1074
  pub not_high : m * up e < 2 ^ 1024 * down e

held : (s : Bool) (m : ℕ) (e : ℤ) → T (fits binary64 (fin s (suc m) e)) → Held (suc m) e
unfolding fits
held s m e t =
    let a : Bool = eqb (suc m % 2) 1 in
    let b : Bool = ltb (suc m) (2 ^ 53) in
    let c : Bool = leb (down e) (2 ^ 1074) in
    let d : Bool = ltb (suc m * up e) (2 ^ 1024 * down e) in
    record {
      small = ltb→lt (suc m) (2 ^ 53) (and_r a b (and_l (a && b) c (and_l (a && b && c) d t)));
      not_low = leb→le (down e) (2 ^ 1074) (and_r (a && b) c (and_l (a && b && c) d t));
      not_high = ltb→lt (suc m * up e) (2 ^ 1024 * down e) (and_r (a && b && c) d t);
    }

in_units : (m j : ℕ) (e : ℤ) → up e * 2 ^ 1074 ≡ 2 ^ j * down e → m * up e * 2 ^ 1074 ≡ m * 2 ^ j * down e
in_units m j e h = mul_assoc m (up e) (2 ^ 1074) ∙ ap (λ (x : ℕ). m * x) h ∙ sym (mul_assoc m (2 ^ j) (down e))

spread : (z : Float) (b : ℕ) → T (fits binary64 z) → HasValue z false b (2 ^ 1074) → Spread b
spread nan b t h = absurd h
spread (inf s) b t h = absurd h
spread (fin s zero e) b t h = record {
  q = 0;
  j = 0;
  small = lit< tt;
  is = eq_of_mul-eq-mul_right (down e) (down_pos e) b 0 (sym h.1 ∙ ap (λ (x : ℕ). x * 2 ^ 1074) (zero-mul (up e)) ∙ zero-mul (2 ^ 1074) ∙ sym (zero-mul (down e)));
}
spread (fin s (suc m) e) b t h =
    let f = held s m e t in
    let l = lifted e f.not_low in
    record { q = suc m; j = l.j; small = f.small; is = eq_of_mul-eq-mul_right (down e) (down_pos e) b (suc m * 2 ^ l.j) (sym h.1 ∙ in_units (suc m) l.j e l.is) }

-- ---- the number halfway, for a b of the format
square_lt : (a b : ℕ) → a < b → a * a < b * b
square_lt a b h = lt_of_le_of_lt (mul-le-mul_left a (le_of_lt h)) (mul-lt-mul_of_pos_right h (lt_of_le_of_lt (zero_le a) h))
  where
    zero_le : (a : ℕ) → 0 ≤ a
    zero_le a = omega arith

module _ (n r k : ℕ) (A : At n r k) where
  -- r * 2 ^ k and (r + 1) * 2 ^ k
  abbrev lower : ℕ
  lower = r * 2 ^ k

  abbrev upper : ℕ
  upper = (r + 1) * 2 ^ k

  abbrev both : ℕ
  both = (2 * r + 1) * 2 ^ k

  sum_is : lower + upper ≡ both
  sum_is = sym (add-mul r (r + 1) (2 ^ k)) ∙ ap (λ (x : ℕ). x * 2 ^ k) (twice r)
    where
      twice : (r : ℕ) → r + (r + 1) ≡ 2 * r + 1
      twice r = omega arith

  next : (b : ℕ) → Spread b → lower < b → upper ≤ b
  next b S h = subst (λ (x : ℕ). upper ≤ x) (sym S.is) (gap 52 r k S.q S.j (inr A.big) S.small (subst (λ (x : ℕ). lower < x) S.is h))

  -- the result, as the test has it
  abbrev at : Bool → ℕ
  at t = cond t (r + 1) r * 2 ^ k

  below_at : (t : Bool) → ltb (both * both) (4 * n) ≡ t → (b : ℕ) → Spread b → b < at t → (at t + b) * (at t + b) < 4 * n
  below_at true e b S h =
      let l : b ≤ lower = by_contra b lower (λ (g : lower < b). not-le_of_lt h (next b S g)) in
      let m : upper + b ≤ both = let s = sum_is in omega arith in
      lt_of_le_of_lt (square_le (upper + b) both m) (ltb-true (both * both) (4 * n) e)
  below_at false e b S h =
      let m : lower + b < 2 * lower = omega arith in
      lt_of_lt_of_le (square_lt (lower + b) (2 * lower) m) (le_trans (le_of_eq (even_square lower)) (mul-le-mul_left 4 A.lo))

  above_at : (4 * n ≡ both * both → ⊥) → (t : Bool) → ltb (both * both) (4 * n) ≡ t → (b : ℕ) → Spread b → at t < b → 4 * n < (at t + b) * (at t + b)
  above_at never true e b S h =
      let m : 2 * upper ≤ upper + b = omega arith in
      lt_of_lt_of_le (quadruple n (upper * upper) A.hi) (le_trans (le_of_eq (sym (even_square upper))) (square_le (2 * upper) (upper + b) m))
    where
      quadruple : (a b : ℕ) → a < b → 4 * a < 4 * b
      quadruple a b h = omega arith
  above_at never false e b S h =
      let u = next b S h in
      let m : both ≤ lower + b = let s = sum_is in omega arith in
      lt_of_lt_of_le (strict (eq-or-lt_of_le (ltb-false (both * both) (4 * n) e))) (square_le both (lower + b) m)
    where
      strict : (4 * n ≡ both * both) ⊎ (4 * n < both * both) → 4 * n < both * both
      strict (inl z) = absurd (never z)
      strict (inr l) = l

-- ---- no root lies halfway: n is a multiple of 4 ^ k, and the square of an odd number none of 4
no_tie : (m r k : ℕ) → 4 * (m * 4 ^ k) ≡ (2 * r + 1) * 2 ^ k * ((2 * r + 1) * 2 ^ k) → ⊥
no_tie m r k e = odd_even (r * r) (eq_of_mul-eq-mul_right (4 ^ k) (four_pow_pos k) (4 * m) (4 * (r * r) + 4 * r + 1) (mul_assoc 4 m (4 ^ k) ∙ e ∙ halfway r k))
  where
    odd_even : (s : ℕ) → 4 * m ≡ 4 * s + 4 * r + 1 → ⊥
    odd_even s e = omega arith

multiple : (q E r k : ℕ) → q < 2 ^ 53 → At (q * 2 ^ E) r k → q * 2 ^ E ≡ q * 2 ^ (E - (k + k)) * 4 ^ k
multiple q E r k small A =
    ap (λ (x : ℕ). q * 2 ^ x) (sym (back E (k + k) room)) ∙ ap (λ (x : ℕ). q * x) (pow-add 2 (E - (k + k)) (k + k)) ∙ sym (mul_assoc q (2 ^ (E - (k + k))) (2 ^ (k + k)))
    ∙ ap (λ (x : ℕ). q * 2 ^ (E - (k + k)) * x) (pow-add 2 k k ∙ sym (four_pow k))
  where
    wide : 2 ^ (104 + (k + k)) < 2 ^ (53 + E)
    wide =
        lt_of_le_of_lt
        (le_trans (le_of_eq (pow-add 2 104 (k + k) ∙ ap (λ (x : ℕ). 2 ^ 104 * x) (pow-add 2 k k ∙ sym (four_pow k)) ∙ sym (scaled_square (2 ^ 52) k)))
        (le_trans (square_le (2 ^ 52 * 2 ^ k) (r * 2 ^ k) (mul-le-mul_right (2 ^ k) A.big)) A.lo))
        (lt_of_lt_of_le (mul-lt-mul_of_pos_right small (pow_pos E)) (le_of_eq (sym (pow-add 2 53 E))))

    room : k + k ≤ E
    room = let l = pow_lt_back (104 + (k + k)) (53 + E) wide in omega arith

-- ---- the 53 leading digits of the root
at_root : (n : ℕ) → 2 ^ 52 ≤ whole_root n → At n (whole_root n / 2 ^ (size (whole_root n) - 53)) (size (whole_root n) - 53)
at_root n h = record {
  big = (le-div_iff_mul-le (pow_pos k)).1 (le_trans (le_of_eq (sym (pow-add 2 52 k))) (size_reaches w (52 + k) enough));
  small = kept-lt 53 w;
  lo = le_trans (square_le (w / 2 ^ k * 2 ^ k) w (div-mul-le_self w (2 ^ k))) (whole_root_lem n).0;
  hi = lt_of_lt_of_le (whole_root_lem n).1 (square_le (w + 1) ((w / 2 ^ k + 1) * 2 ^ k) (cut (w / 2 ^ k) (2 ^ k) (w % 2 ^ k) (div-add-mod' w (2 ^ k)) (mod-lt w (pow_pos k))));
}
  where
    w : ℕ
    w = whole_root n

    k : ℕ
    k = size (whole_root n) - 53

    enough : 52 + (size (whole_root n) - 53) < size (whole_root n)
    enough = let l = pow_lt_back 52 (size (whole_root n)) (lt_of_le_of_lt h (size-lt (whole_root n))) in omega arith

    cut : (a u c : ℕ) → a * u + c ≡ whole_root n → c < u → whole_root n + 1 ≤ (a + 1) * u
    cut a u c e l = le_trans more (le_of_eq (sym (add-mul a 1 u ∙ ap (λ (x : ℕ). a * u + x) (one-mul u))))
      where
        more : whole_root n + 1 ≤ a * u + u
        more = omega arith

-- ---- the law, for a value of q * 2 ^ j of the smallest ones
module _ (q j : ℕ) (small : q < 2 ^ 53) (some : 0 < q * 2 ^ j) (finite : q * 2 ^ j < 2 ^ 2098) where
  abbrev n : ℕ
  n = q * 2 ^ j

  n_is : n * 2 ^ 1074 ≡ q * 2 ^ (j + 1074)
  n_is = mul_assoc q (2 ^ j) (2 ^ 1074) ∙ ap (λ (x : ℕ). q * x) (sym (pow-add 2 j 1074))

  root_big : 2 ^ 52 ≤ whole_root (n * 2 ^ 1074)
  root_big = root_ge (n * 2 ^ 1074) (2 ^ 52) (le_trans (lit≤ tt) (le_trans (le_of_eq (sym (one-mul (2 ^ 1074)))) (mul-le-mul_right (2 ^ 1074) some)))

  abbrev k : ℕ
  k = size (whole_root (n * 2 ^ 1074)) - 53

  abbrev r : ℕ
  r = whole_root (n * 2 ^ 1074) / 2 ^ k

  A : At (n * 2 ^ 1074) r k
  A = at_root (n * 2 ^ 1074) root_big

  never : 4 * (n * 2 ^ 1074) ≡ (2 * r + 1) * 2 ^ k * ((2 * r + 1) * 2 ^ k) → ⊥
  never e =
      no_tie (q * 2 ^ (j + 1074 - (k + k))) r k
      (ap (λ (x : ℕ). 4 * x) (sym (n_is ∙ multiple q (j + 1074) r k small (subst (λ (x : ℕ). At x r k) n_is A))) ∙ e)

  k_lt : 52 + k < 1586
  k_lt = pow_lt_back (52 + k) 1586
      (lt_of_le_of_lt (le_trans (le_of_eq (pow-add 2 52 k)) (mul-le-mul_right (2 ^ k) A.big))
      (lt_of_not-le (λ (g : 2 ^ 1586 ≤ r * 2 ^ k).
      not-le_of_lt (mul-lt-mul_of_pos_right finite (pow_pos 1074)) (le_trans (lit≤ tt) (le_trans (square_le (2 ^ 1586) (r * 2 ^ k) g) A.lo)))))

  abbrev digits : ℕ
  digits = nearer (n * 2 ^ 1074) r k

  digits_le : digits ≤ 2 ^ 53
  digits_le = go (ltb ((2 * r + 1) * 2 ^ k * ((2 * r + 1) * 2 ^ k)) (4 * (n * 2 ^ 1074)))
    where
      go : (t : Bool) → cond t (r + 1) r ≤ 2 ^ 53
      go true = let s = A.small in omega arith
      go false = let s = A.small in omega arith

  in_range : digits * 2 ^ k < 2 ^ 2098
  in_range =
      let l : k ≤ 1600 = let h = k_lt in omega arith in
      lt_of_le_of_lt (mul-le-mul digits_le (pow_mono l)) (lit< tt)

  nearest_of : (x : Float) → HasValue x false n (2 ^ 1074) → NearestRoot x (units binary64 false digits k)
  nearest_of x h = record {
    n = n;
    a = digits * 2 ^ k;
    x_is = h;
    y_is = units_val binary64 false digits k in_range;
    held = units_held binary64 false digits k digits_le;
    below = λ z b t v. below_at (n * 2 ^ 1074) r k A (ltb ((2 * r + 1) * 2 ^ k * ((2 * r + 1) * 2 ^ k)) (4 * (n * 2 ^ 1074))) refl b (spread z b t v);
    above = λ z b t v. above_at (n * 2 ^ 1074) r k A never (ltb ((2 * r + 1) * 2 ^ k * ((2 * r + 1) * 2 ^ k)) (4 * (n * 2 ^ 1074))) refl b (spread z b t v);
  }

  root_is : units binary64 false digits k ≡ root_of n
  unfolding root_of
  root_is = sym (rounded_at (n * 2 ^ 1074) r k A)

pub nearest_root : (x : Float) → T (fits binary64 x) → T (positive x) → NearestRoot x (sqrt x)
nearest_root nan t p = absurd p
nearest_root (inf s) t p = absurd p
nearest_root (fin true m e) t p = absurd p
nearest_root (fin false zero e) t p = absurd p
nearest_root (fin false (suc m) e) t p =
    let f = held false m e t in
    let l = lifted e f.not_low in
    let v : HasValue (fin false (suc m) e) false (suc m * 2 ^ l.j) (2 ^ 1074) = (refl, in_units (suc m) l.j e l.is) in
    let some : 0 < suc m * 2 ^ l.j = mul-pos (positive_suc m) (pow_pos l.j) in
    let finite : suc m * 2 ^ l.j < 2 ^ 2098 = lt_of_mul-lt-mul_right (down e)
    (lt_of_le_of_lt (le_of_eq (sym v.1)) (lt_of_lt_of_le (mul-lt-mul_of_pos_right f.not_high (pow_pos 1074)) (le_of_eq (mul_right_comm (2 ^ 1024) (down e) (2 ^ 1074))))) in
    subst (NearestRoot (fin false (suc m) e)) (root_is (suc m) l.j f.small some finite ∙ sym (sqrt_of (fin false (suc m) e) false (suc m * 2 ^ l.j) some v))
    (nearest_of (suc m) l.j f.small some finite (fin false (suc m) e) v)
  where
    positive_suc : (m : ℕ) → 0 < suc m
    positive_suc m = omega arith
