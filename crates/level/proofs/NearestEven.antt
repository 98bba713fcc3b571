-- The kit's `round`, and so `narrow`, is the nearest value, at a tie the even one (SPEC 1, 11.1, 21.7).
use Prim.Native.Nat.{Ordering}
use Prim.Native.Nat.{ℕ, suc, ◌+◌, ◌-◌, ◌*◌, ◌/◌, ◌%◌, ◌^◌, ◌≤◌, ◌<◌}
use native.Mathlib.Nat.{le_trans, le_of_eq, le_of_lt, not-le_of_lt, div-mul-le_self, eq-zero-or-pos, eq-or-lt_of_le, mul_assoc, mul_right_comm, mul-pos, mul-le-mul_right, mul-lt-mul_of_pos_right, add-mul, one-mul, le-div_iff_mul-le, div-add-mod', mod-lt, div-div-eq-div-mul}
use native.Mathlib.Numerals.{add-one}
use native.Mathlib.Omega.{arith}
use mathlib.Core.Path.{◌≡◌, refl, sym, ap, ◌∙◌, subst}
use mathlib.Core.Logic.{◌⊎◌, inl, inr}
use mathlib.Core.Bool.{Bool, true, false, cond}
use lib.IntN.{ℤ}
use lib.Pow.{pow-add, pow_pos}
use lib.Ieee.{Float, inf, fin, Format, binary32, binary64, prec, low, up, down, size, units, round, hid, top, to_bits}
use lib.Ieee.Digits.{size_reaches}
use lib.Ieee.Fits.{round_is, kept-lt, down_pos}
use lib.Ieee.Exact.{units_val}
use lib.Ieee.Nearest.{closest}
use lib.Ieee.Scale.{overflow}
use Rattle.level.specs.Narrow.{narrow, NearestEven}
use Rattle.level.proofs.Quotient.{closest_by}
use Rattle.level.proofs.Pack.{or_less, stored, prec_is, bits_of_units, units_held, units_inf}
use Rattle.level.proofs.Grid.{gap}

-- ---- a fraction m / u to the nearest whole number: down to q, or up to q + 1
record Down (m u q c : ℕ) : Type 0 where
  pub is : c ≡ q
  pub near : 2 * m ≤ 2 * (q * u) + u
  pub tie : 2 * m ≡ 2 * (q * u) + u → c % 2 ≡ 0

record Up (m u q c : ℕ) : Type 0 where
  pub is : c ≡ q + 1
  pub near : 2 * (q * u) + u ≤ 2 * m
  pub tie : 2 * m ≡ 2 * (q * u) + u → c % 2 ≡ 0

closest_goes : (m u : ℕ) → 0 < u → Down m u (m / u) (closest m u) ⊎ Up m u (m / u) (closest m u)
closest_goes m u U = go (or_less u (m % u * 2))
  where
    whole : m / u * u + m % u ≡ m
    whole = div-add-mod' m u

    even : (q : ℕ) → q % 2 ≡ 0 → q + q % 2 ≡ q
    even q e = omega arith

    odd : (q : ℕ) → q % 2 ≡ 1 → q + q % 2 ≡ q + 1
    odd q e = omega arith

    next_even : (q : ℕ) → q % 2 ≡ 1 → (q + 1) % 2 ≡ 0
    next_even q e = omega arith

    bit : (q : ℕ) → (q % 2 ≡ 0) ⊎ (q % 2 ≡ 1)
    bit q = elim (eq-zero-or-pos (q % 2)) [ inl z ↦ inl z | inr p ↦ inr (omega arith) ]

    at_tie : u ≡ m % u * 2 → Down m u (m / u) (closest m u) ⊎ Up m u (m / u) (closest m u)
    at_tie e = elim (bit (m / u)) [
      | inl z ↦
          let c : closest m u ≡ m / u = closest_by Ordering.eq m u (sym e) ∙ even (m / u) z in
          inl (record { is = c; near = let w = whole in omega arith; tie = λ t. ap (λ (x : ℕ). x % 2) c ∙ z })
      | inr o ↦
          let c : closest m u ≡ m / u + 1 = closest_by Ordering.eq m u (sym e) ∙ odd (m / u) o in
          inr (record { is = c; near = let w = whole in omega arith; tie = λ t. ap (λ (x : ℕ). x % 2) c ∙ next_even (m / u) o })
    ]

    go : (u ≤ m % u * 2) ⊎ (m % u * 2 < u) → Down m u (m / u) (closest m u) ⊎ Up m u (m / u) (closest m u)
    go (inr l) = inl (record { is = closest_by Ordering.lt m u l; near = let w = whole in omega arith; tie = λ t. let w = whole in absurd (omega arith) })
    go (inl l) = elim (eq-or-lt_of_le l) [
      | inl e ↦ at_tie e
      | inr g ↦ inr (record { is = closest_by Ordering.gt m u g ∙ sym (add-one (m / u)); near = let w = whole in omega arith; tie = λ t. let w = whole in absurd (omega arith) })
    ]

-- ---- the bits end in 0 where the digits do
even_bits : (f : Format) (s : Bool) (k c : ℕ) → c % 2 ≡ 0 → (cond s (top f) 0 + (k * hid f + c)) % 2 ≡ 0
even_bits binary32 true k c e = omega arith
even_bits binary32 false k c e = omega arith
even_bits binary64 true k c e = omega arith
even_bits binary64 false k c e = omega arith

even_inf : (f : Format) (s : Bool) → to_bits f (inf s) % 2 ≡ 0
unfolding to_bits
even_inf binary32 true = refl
even_inf binary32 false = refl
even_inf binary64 true = refl
even_inf binary64 false = refl

even_units : (f : Format) (s : Bool) (c k : ℕ) → c ≤ 2 ^ prec f → (k ≡ 0) ⊎ (hid f ≤ c) → c % 2 ≡ 0 → to_bits f (units f s c k) % 2 ≡ 0
even_units f s c k h n e = elim (or_less (overflow f) (c * 2 ^ k)) [
  | inl o ↦ ap (λ (x : Float). to_bits f x % 2) (units_inf f s c k o) ∙ even_inf f s
  | inr o ↦ ap (λ (x : ℕ). x % 2) (bits_of_units f s c k h n o) ∙ even_bits f s k c e
]

apart : (a b : ℕ) → (b ≡ a → ⊥) → (b < a) ⊎ (a < b)
apart a b h = elim (or_less a b) [ inl l ↦ elim (eq-or-lt_of_le l) [ inl e ↦ absurd (h (sym e)) | inr g ↦ inr g ] | inr g ↦ inl g ]

-- ---- n / d in units of d * 2 ^ k has the whole part q: it lies from q * 2 ^ k up to (q + 1) * 2 ^ k, and no number of the format lies between these
module _ (f : Format) (s : Bool) (n d k q : ℕ) (D : 0 < d) (small : q < 2 ^ prec f) (big : (k ≡ 0) ⊎ (hid f ≤ q)) (from : q * (d * 2 ^ k) ≤ n * 2 ^ low f) (to : n * 2 ^ low f < q * (d * 2 ^ k) + d * 2 ^ k) where
  lower : q * 2 ^ k * d ≡ q * (d * 2 ^ k)
  lower = mul_right_comm q (2 ^ k) d ∙ mul_assoc q d (2 ^ k)

  upper : (q + 1) * 2 ^ k * d ≡ q * (d * 2 ^ k) + d * 2 ^ k
  upper = mul_right_comm (q + 1) (2 ^ k) d ∙ mul_assoc (q + 1) d (2 ^ k) ∙ add-mul q 1 (d * 2 ^ k) ∙ ap (λ (x : ℕ). q * (d * 2 ^ k) + x) (one-mul (d * 2 ^ k))

  next : (p j : ℕ) → p < 2 ^ prec f → q * 2 ^ k < p * 2 ^ j → q * (d * 2 ^ k) + d * 2 ^ k ≤ p * 2 ^ j * d
  next p j l h = le_trans (le_of_eq (sym upper)) (mul-le-mul_right d (gap (stored f) q k p j big (subst (λ (x : ℕ). p < 2 ^ x) (prec_is f) l) h))

  before : (p j : ℕ) → p < 2 ^ prec f → p * 2 ^ j < (q + 1) * 2 ^ k → p * 2 ^ j * d ≤ q * (d * 2 ^ k)
  before p j l h = elim (or_less (p * 2 ^ j) (q * 2 ^ k)) [
    | inl g ↦ le_trans (mul-le-mul_right d g) (le_of_eq lower)
    | inr g ↦ absurd (not-le_of_lt (mul-lt-mul_of_pos_right h D) (le_trans (le_of_eq upper) (next p j l g)))
  ]

  down_even : Down (n * 2 ^ low f) (d * 2 ^ k) q q → NearestEven f s n d (units f s q k)
  down_even G = record {
    m = q;
    k = k;
    short = le_of_lt small;
    held = units_held f s q k (le_of_lt small);
    finite = units_val f s q k;
    infinite = units_inf f s q k;
    below = λ p j l h.
        let b = mul-lt-mul_of_pos_right h D in
        let a = lower in
        rw (add-mul _ _ d) (omega arith);
    above = λ p j l h.
        let b = next p j l h in
        let a = lower in
        let g = G.near in
        rw (add-mul _ _ d) (omega arith);
    even = λ p j l h t. even_units f s q k (le_of_lt small) big (elim (apart (q * 2 ^ k) (p * 2 ^ j) h) [
      | inl g ↦
          let b = mul-lt-mul_of_pos_right g D in
          let a = lower in
          let t' = rw (add-mul _ _ d) at t in absurd (omega arith)
      | inr g ↦
          let b = next p j l g in
          let a = lower in
          let t' = rw (add-mul _ _ d) at t in
          let r = G.near in
          G.tie (omega arith)
    ]);
  }

  up_even : Up (n * 2 ^ low f) (d * 2 ^ k) q (q + 1) → NearestEven f s n d (units f s (q + 1) k)
  up_even G = record {
    m = q + 1;
    k = k;
    short = short;
    held = units_held f s (q + 1) k short;
    finite = units_val f s (q + 1) k;
    infinite = units_inf f s (q + 1) k;
    below = λ p j l h.
        let b = before p j l h in
        let a = upper in
        let g = G.near in
        rw (add-mul _ _ d) (omega arith);
    above = λ p j l h.
        let b = mul-lt-mul_of_pos_right h D in
        let a = upper in
        rw (add-mul _ _ d) (omega arith);
    even = λ p j l h t. even_units f s (q + 1) k short full (elim (apart ((q + 1) * 2 ^ k) (p * 2 ^ j) h) [
      | inl g ↦
          let b = before p j l g in
          let a = upper in
          let t' = rw (add-mul _ _ d) at t in
          let r = G.near in
          G.tie (omega arith)
      | inr g ↦
          let b = mul-lt-mul_of_pos_right g D in
          let a = upper in
          let t' = rw (add-mul _ _ d) at t in absurd (omega arith)
    ]);
  }
    where
      short : q + 1 ≤ 2 ^ prec f
      short = omega arith

      full : (k ≡ 0) ⊎ (hid f ≤ q + 1)
      full = elim big [ inl e ↦ inl e | inr l ↦ inr (omega arith) ]

-- ---- the law
pub round_nearest : (f : Format) (s : Bool) (n d : ℕ) → 0 < d → NearestEven f s n d (round f s n d)
round_nearest f s n d D = subst (NearestEven f s n d) (sym (round_is f s n d)) (go (closest_goes (n * 2 ^ low f) (d * 2 ^ k) U))
  where
    k : ℕ
    k = size (n * 2 ^ low f / d) - prec f

    q : ℕ
    q = n * 2 ^ low f / (d * 2 ^ k)

    U : 0 < d * 2 ^ k
    U = mul-pos D (pow_pos k)

    halves : n * 2 ^ low f / d / 2 ^ k ≡ q
    halves = div-div-eq-div-mul (n * 2 ^ low f) d (2 ^ k)

    small : q < 2 ^ prec f
    small = subst (λ (x : ℕ). x < 2 ^ prec f) halves (kept-lt (prec f) (n * 2 ^ low f / d))

    long : (z p i : ℕ) → p ≡ suc i → 0 < z - p → i + (z - p) < z
    long z p i e h = omega arith

    big : (k ≡ 0) ⊎ (hid f ≤ q)
    big = elim (eq-zero-or-pos k) [
      | inl z ↦ inl z
      | inr p ↦
          let reach : 2 ^ (stored f + k) ≤ n * 2 ^ low f / d = size_reaches (n * 2 ^ low f / d) (stored f + k) (long (size (n * 2 ^ low f / d)) (prec f) (stored f) (prec_is f) p) in
          inr (le_trans ((le-div_iff_mul-le (pow_pos k)).1 (le_trans (le_of_eq (sym (pow-add 2 (stored f) k))) reach)) (le_of_eq halves))
    ]

    from : q * (d * 2 ^ k) ≤ n * 2 ^ low f
    from = div-mul-le_self (n * 2 ^ low f) (d * 2 ^ k)

    to : n * 2 ^ low f < q * (d * 2 ^ k) + d * 2 ^ k
    to = cut q (d * 2 ^ k) (n * 2 ^ low f % (d * 2 ^ k)) (n * 2 ^ low f) (div-add-mod' (n * 2 ^ low f) (d * 2 ^ k)) (mod-lt (n * 2 ^ low f) U)
      where
        cut : (q u r m : ℕ) → q * u + r ≡ m → r < u → m < q * u + u
        cut q u r m e l = omega arith

    go : Down (n * 2 ^ low f) (d * 2 ^ k) q (closest (n * 2 ^ low f) (d * 2 ^ k)) ⊎ Up (n * 2 ^ low f) (d * 2 ^ k) q (closest (n * 2 ^ low f) (d * 2 ^ k)) → NearestEven f s n d (units f s (closest (n * 2 ^ low f) (d * 2 ^ k)) k)
    go (inl G) = subst (λ (c : ℕ). Down (n * 2 ^ low f) (d * 2 ^ k) q c → NearestEven f s n d (units f s c k)) (sym G.is) (down_even f s n d k q D small big from to) G
    go (inr G) = subst (λ (c : ℕ). Up (n * 2 ^ low f) (d * 2 ^ k) q c → NearestEven f s n d (units f s c k)) (sym G.is) (up_even f s n d k q D small big from to) G

pub narrow_nearest : (s : Bool) (m : ℕ) (e : ℤ) → NearestEven binary32 s (m * up e) (down e) (narrow (fin s m e))
unfolding narrow
narrow_nearest s m e = round_nearest binary32 s (m * up e) (down e) (down_pos e)
