-- A rounded number as a bit pattern: the digits kept, and how many were dropped times the weight of the exponent's field.
use Prim.Native.Nat.{ℕ, suc, ◌+◌, ◌-◌, ◌*◌, ◌/◌, ◌%◌, ◌^◌, ◌≤◌, ◌<◌, compare}
use native.Mathlib.Nat.{le_trans, le_refl, le_of_eq, le_antisymm, lt_of_lt_of_le, lt_of_le_of_lt, lt_of_not-le, lt_irrefl, not-le_of_lt, mul-one, mul_comm, mul_assoc, mul_left_comm, mul_right_comm, mul-div_cancel, mul-pos, mul-le-mul_right, mul-lt-mul_of_pos_right, div-one, add_assoc, pow-succ', le-div_iff_mul-le, div-lt_iff_lt-mul, eq-or-lt_of_le, suc-mul, suc-add}
use native.Mathlib.Omega.{arith}
use mathlib.Core.Path.{◌≡◌, refl, sym, ap, ◌∙◌, subst}
use mathlib.Core.Logic.{◌⊎◌, inl, inr}
use mathlib.Core.Bool.{Bool, true, false, not, cond}
use lib.Dec.{T, ltb, leb, leb→le, nleb→lt, ltb→lt}
use lib.Arith.{le→nltb}
use lib.Pow.{pow-add, pow_pos, pow_mono, pow-lt}
use lib.Ieee.{Float, nan, inf, fin, Format, binary32, binary64, prec, low, down, size, odd, units, round, fits, hid, top, of_bits, to_bits}
use lib.Ieee.Digits.{size-lt, size-le}
use lib.Ieee.Fits.{round_is, down_pos, nearest-le, odd-fits, inf-fits}
use lib.Ieee.Exact.{HasValue, units_val}
use lib.Ieee.Bits.{of_bits-to_bits, cond_no}
use lib.Ieee.Nearest.{closest, closest_same, div_same, nearest-ge}
use lib.Ieee.Scale.{overflow}

pub or_less : (a b : ℕ) → (a ≤ b) ⊎ (b < a)
or_less a b = go (leb a b) (leb→le a b) (nleb→lt a b)
  where
    go : (t : Bool) → (T t → a ≤ b) → (T (not t) → b < a) → (a ≤ b) ⊎ (b < a)
    go true h k = inl (h tt)
    go false h k = inr (k tt)

-- ---- how many binary digits a number has
pub pow_lt_back : (i p : ℕ) → 2 ^ i < 2 ^ p → i < p
pow_lt_back i p h = lt_of_not-le (λ (g : p ≤ i). lt_irrefl (2 ^ i) (lt_of_lt_of_le h (pow_mono g)))

size_exact : (a n : ℕ) → 2 ^ a ≤ n → n < 2 ^ suc a → size n ≡ suc a
size_exact a n lo hi = le_antisymm (size-le n (suc a) hi) (pow_lt_back a (size n) (lt_of_le_of_lt lo (size-lt n)))

-- P + 1 digits above the d lowest
pub size_above : (P n d : ℕ) → 2 ^ P * 2 ^ d ≤ n → n < 2 ^ suc P * 2 ^ d → size n ≡ suc (P + d)
size_above P n d lo hi =
    size_exact (P + d) n (subst (λ (x : ℕ). x ≤ n) (sym (pow-add 2 P d)) lo)
    (subst (λ (x : ℕ). n < x) (sym (ap (λ (x : ℕ). 2 ^ x) (sym (suc-add P d)) ∙ pow-add 2 (suc P) d)) hi)

-- ---- the number of the pattern, for a format of P + 1 digits
abbrev num : ℕ → ℕ → ℕ
num P a = (size a - suc P) * 2 ^ P + a / 2 ^ (size a - suc P)

less : (z P k : ℕ) → z ≡ suc (P + k) → z - suc P ≡ k
less z P k e = omega arith

-- q * 2 ^ k with a q of P + 1 digits
full : (P k q : ℕ) → 2 ^ P ≤ q → q < 2 ^ suc P → num P (q * 2 ^ k) ≡ k * 2 ^ P + q
full P k q lo hi =
    let a = q * 2 ^ k in
    let z : size a - suc P ≡ k = less (size a) P k (size_above P a k (mul-le-mul_right (2 ^ k) lo) (mul-lt-mul_of_pos_right hi (pow_pos k))) in
    ap (λ (x : ℕ). x * 2 ^ P + a / 2 ^ x) z ∙ ap (λ (x : ℕ). k * 2 ^ P + x) (mul-div_cancel q (pow_pos k))

-- fewer digits, and none dropped
few : (P q : ℕ) → q < 2 ^ P → num P (q * 2 ^ 0) ≡ 0 * 2 ^ P + q
few P q h =
    let z : size (q * 2 ^ 0) - suc P ≡ 0 = none (size (q * 2 ^ 0)) P (size-le (q * 2 ^ 0) P (subst (λ (x : ℕ). x < 2 ^ P) (sym (mul-one q)) h)) in
    ap (λ (x : ℕ). x * 2 ^ P + q * 2 ^ 0 / 2 ^ x) z ∙ ap (λ (x : ℕ). 0 * 2 ^ P + x) (div-one (q * 2 ^ 0) ∙ mul-one q)
  where
    none : (z P : ℕ) → z ≤ P → z - suc P ≡ 0
    none z P h = omega arith

-- rounded up to one digit more
over : (P k : ℕ) → num P (2 ^ suc P * 2 ^ k) ≡ k * 2 ^ P + 2 ^ suc P
over P k =
    let e : 2 ^ suc P * 2 ^ k ≡ 2 ^ P * 2 ^ suc k = ap (λ (x : ℕ). x * 2 ^ k) (pow-succ' 2 P) ∙ swap (2 ^ P) (2 ^ k) ∙ ap (λ (x : ℕ). 2 ^ P * x) (sym (pow-succ' 2 k)) in
    ap (num P) e ∙ full P (suc k) (2 ^ P) (le_refl (2 ^ P)) (pow-lt (le_refl (suc P))) ∙ ap (λ (x : ℕ). x + 2 ^ P) (suc-mul k (2 ^ P)) ∙ more (k * 2 ^ P) (2 ^ P) (2 ^ suc P) (pow-succ' 2 P)
  where
    swap : (a b : ℕ) → 2 * a * b ≡ a * (2 * b)
    swap a b = simp (mul_assoc, mul_left_comm)

    more : (a b c : ℕ) → c ≡ 2 * b → a + b + b ≡ a + c
    more a b c e = omega arith

number : (P k q : ℕ) → q ≤ 2 ^ suc P → (k ≡ 0) ⊎ (2 ^ P ≤ q) → num P (q * 2 ^ k) ≡ k * 2 ^ P + q
number P k q h n = top_or (eq-or-lt_of_le h)
  where
    at : (2 ^ P ≤ q) ⊎ (q < 2 ^ P) → q < 2 ^ suc P → (k ≡ 0) ⊎ (2 ^ P ≤ q) → num P (q * 2 ^ k) ≡ k * 2 ^ P + q
    at (inl g) l n = full P k q g l
    at (inr g) l (inl z) = subst (λ (x : ℕ). num P (q * 2 ^ x) ≡ x * 2 ^ P + q) (sym z) (few P q g)
    at (inr g) l (inr y) = absurd (not-le_of_lt g y)

    top_or : (q ≡ 2 ^ suc P) ⊎ (q < 2 ^ suc P) → num P (q * 2 ^ k) ≡ k * 2 ^ P + q
    top_or (inl e) = subst (λ (x : ℕ). num P (x * 2 ^ k) ≡ k * 2 ^ P + x) (sym e) (over P k)
    top_or (inr l) = at (or_less (2 ^ P) q) l n

-- ---- the pattern of a value
to_bits_of : (f : Format) (v : Float) (s : Bool) (a : ℕ) → HasValue v s a (2 ^ low f) → to_bits f v ≡ cond s (top f) 0 + (size a - prec f) * hid f + a / 2 ^ (size a - prec f)
unfolding to_bits
to_bits_of f nan s a h = absurd h
to_bits_of f (inf t) s a h = absurd h
to_bits_of f (fin t m e) s a h =
    ap (λ (b : Bool). to_bits f (fin b m e)) h.0
    ∙ ap (λ (x : ℕ). cond s (top f) 0 + (size x - prec f) * hid f + x / 2 ^ (size x - prec f)) (ap (λ (x : ℕ). x / down e) h.1 ∙ mul-div_cancel a (down_pos e))

-- how many digits a pattern of the format has: the leading one is not among them
abbrev pub stored : Format → ℕ
stored f = prec f - 1

pub prec_is : (f : Format) → prec f ≡ suc (stored f)
prec_is binary32 = refl
prec_is binary64 = refl

pub units_held : (f : Format) (s : Bool) (q k : ℕ) → q ≤ 2 ^ prec f → T (fits f (units f s q k))
unfolding units
units_held f s q k h = go (ltb (q * 2 ^ k) (overflow f)) (ltb→lt (q * 2 ^ k) (overflow f))
  where
    go : (b : Bool) → (T b → q * 2 ^ k < overflow f) → T (fits f (cond b (odd (suc (prec f)) s q k (low f)) (inf s)))
    go true o = odd-fits f (suc (prec f)) s q k (lt_of_le_of_lt h (pow-lt (le_refl (suc (prec f))))) h (o tt)
    go false o = inf-fits f s

-- the bits of q * 2 ^ k of the smallest values, where q has all the digits or none was dropped; and the value that they stand for
pub bits_of_units : (f : Format) (s : Bool) (q k : ℕ) → q ≤ 2 ^ prec f → (k ≡ 0) ⊎ (hid f ≤ q) → q * 2 ^ k < overflow f → to_bits f (units f s q k) ≡ cond s (top f) 0 + (k * hid f + q)
bits_of_units f s q k h n o =
    let a = q * 2 ^ k in
    to_bits_of f (units f s q k) s a (units_val f s q k o)
    ∙ ap (λ (x : ℕ). cond s (top f) 0 + (size a - x) * hid f + a / 2 ^ (size a - x)) (prec_is f)
    ∙ add_assoc (cond s (top f) 0) ((size a - suc (stored f)) * hid f) (a / 2 ^ (size a - suc (stored f)))
    ∙ ap (λ (x : ℕ). cond s (top f) 0 + x) (number (stored f) k q (subst (λ (x : ℕ). q ≤ 2 ^ x) (prec_is f) h) n)

pub units_bits : (f : Format) (s : Bool) (q k : ℕ) → q ≤ 2 ^ prec f → (k ≡ 0) ⊎ (hid f ≤ q) → q * 2 ^ k < overflow f → of_bits f (cond s (top f) 0 + (k * hid f + q)) ≡ units f s q k
units_bits f s q k h n o = ap (of_bits f) (sym (bits_of_units f s q k h n o)) ∙ of_bits-to_bits f (units f s q k) (units_held f s q k h)

pub units_inf : (f : Format) (s : Bool) (q k : ℕ) → overflow f ≤ q * 2 ^ k → units f s q k ≡ inf s
unfolding units
units_inf f s q k h = cond_no (ltb (q * 2 ^ k) (overflow f)) (odd (suc (prec f)) s q k (low f)) (inf s) (le→nltb (q * 2 ^ k) (overflow f) h)

-- ---- `round` at a fraction m * 2 ^ e / 2 ^ c that keeps m / 2 ^ d and drops k places
rounded : (f : Format) (s : Bool) (m e c d k : ℕ) → e + (low f + d) ≡ c + k → size (m * 2 ^ k / 2 ^ d) - prec f ≡ k
    → round f s (m * 2 ^ e) (2 ^ c) ≡ units f s (closest m (2 ^ d)) k
rounded f s m e c d k h z =
    let n = m * 2 ^ e * 2 ^ low f in
    let all : n * 2 ^ d ≡ m * (2 ^ c * 2 ^ k) = group m (2 ^ e) (2 ^ low f) (2 ^ d) ∙ ap (λ (x : ℕ). m * x) (ap (λ (x : ℕ). 2 ^ e * x) (sym (pow-add 2 (low f) d)) ∙ sym (pow-add 2 e (low f + d)) ∙ ap (λ (x : ℕ). 2 ^ x) h ∙ pow-add 2 c k) in
    let y : size (n / 2 ^ c) - prec f ≡ k = ap (λ (x : ℕ). size x - prec f) (div_same n (2 ^ c) (m * 2 ^ k) (2 ^ d) (pow_pos c) (pow_pos d) (all ∙ turn m (2 ^ c) (2 ^ k))) ∙ z in
    round_is f s (m * 2 ^ e) (2 ^ c)
    ∙ ap (λ (x : ℕ). units f s (closest n (2 ^ c * 2 ^ x)) x) y
    ∙ ap (λ (x : ℕ). units f s x k) (closest_same n (2 ^ c * 2 ^ k) m (2 ^ d) (mul-pos (pow_pos c) (pow_pos k)) (pow_pos d) all)
  where
    group : (a b c d : ℕ) → a * b * c * d ≡ a * (b * (c * d))
    group a b c d = simp mul_assoc

    turn : (a b c : ℕ) → a * (b * c) ≡ a * c * b
    turn a b c = simp (mul_assoc, mul_comm)

-- what is kept has P + 1 digits, or is 2 ^ (P + 1)
pub kept_ge : (P m d : ℕ) → 2 ^ P * 2 ^ d ≤ m → 2 ^ P ≤ closest m (2 ^ d)
kept_ge P m d lo = le_trans ((le-div_iff_mul-le (pow_pos d)).1 lo) (nearest-ge (m / 2 ^ d) (compare (m % 2 ^ d * 2) (2 ^ d)))

pub kept_le : (P m d : ℕ) → m < 2 ^ P * 2 ^ d → closest m (2 ^ d) ≤ 2 ^ P
kept_le P m d hi = le_trans (nearest-le (m / 2 ^ d) (compare (m % 2 ^ d * 2) (2 ^ d))) ((div-lt_iff_lt-mul (pow_pos d)).1 hi)

module _ (f : Format) (s : Bool) (m e c d k : ℕ) (h : e + (low f + d) ≡ c + k) (hi : m < 2 ^ prec f * 2 ^ d) where
  -- in the normal range
  module _ (lo : hid f * 2 ^ d ≤ m) where
    kept_size : size (m * 2 ^ k / 2 ^ d) - prec f ≡ k
    kept_size =
        ap (λ (x : ℕ). size (m * 2 ^ k / 2 ^ d) - x) (prec_is f)
        ∙ less (size (m * 2 ^ k / 2 ^ d)) (stored f) k
        (size_above (stored f) (m * 2 ^ k / 2 ^ d) k
        ((le-div_iff_mul-le (pow_pos d)).1 (le_trans (le_of_eq (mul_right_comm (hid f) (2 ^ k) (2 ^ d))) (mul-le-mul_right (2 ^ k) lo)))
        (subst (λ (x : ℕ). m * 2 ^ k / 2 ^ d < 2 ^ x * 2 ^ k) (prec_is f)
        ((div-lt_iff_lt-mul (pow_pos d)).1 (lt_of_lt_of_le (mul-lt-mul_of_pos_right hi (pow_pos k)) (le_of_eq (mul_right_comm (2 ^ prec f) (2 ^ d) (2 ^ k)))))))

    pub normal : closest m (2 ^ d) * 2 ^ k < overflow f → of_bits f (cond s (top f) 0 + (k * hid f + closest m (2 ^ d))) ≡ round f s (m * 2 ^ e) (2 ^ c)
    normal o = units_bits f s (closest m (2 ^ d)) k (kept_le (prec f) m d hi) (inr (kept_ge (stored f) m d lo)) o ∙ sym (rounded f s m e c d k h kept_size)

    pub too_large : overflow f ≤ closest m (2 ^ d) * 2 ^ k → inf s ≡ round f s (m * 2 ^ e) (2 ^ c)
    too_large o = sym (rounded f s m e c d k h kept_size ∙ units_inf f s (closest m (2 ^ d)) k o)

-- below it
pub subnormal : (f : Format) (s : Bool) (m e c d : ℕ) → e + (low f + d) ≡ c + 0 → m < 2 ^ prec f * 2 ^ d
    → closest m (2 ^ d) * 2 ^ 0 < overflow f → of_bits f (cond s (top f) 0 + (0 * hid f + closest m (2 ^ d))) ≡ round f s (m * 2 ^ e) (2 ^ c)
subnormal f s m e c d h hi o = units_bits f s (closest m (2 ^ d)) 0 (kept_le (prec f) m d hi) (inl refl) o ∙ sym (rounded f s m e c d 0 h (none (size (m * 2 ^ 0 / 2 ^ d)) (prec f) few_digits))
  where
    none : (x y : ℕ) → x ≤ y → x - y ≡ 0
    none x y h = omega arith

    few_digits : size (m * 2 ^ 0 / 2 ^ d) ≤ prec f
    few_digits = size-le (m * 2 ^ 0 / 2 ^ d) (prec f) (subst (λ (x : ℕ). x / 2 ^ d < 2 ^ prec f) (sym (mul-one m)) ((div-lt_iff_lt-mul (pow_pos d)).1 hi))
