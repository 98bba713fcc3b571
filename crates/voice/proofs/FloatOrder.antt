-- The order of floats that are no NaN, by IEEE 754's comparison: it is total, and "less or equal" goes on from one to the next.
-- A finite float of the sign s and the size a / k counts as (plus s a - minus s a) / k; so each comparison of two of them is one
-- of whole numbers.
use Prim.Native.Nat.{ℕ, ◌+◌, ◌*◌, ◌≤◌, ◌<◌}
use native.Mathlib.Nat.{le_of_lt, mul-le-mul_right, le_of_mul-le-mul_right}
use native.Mathlib.Omega.{arith}
use mathlib.Core.Path.{◌≡◌, refl, sym, ◌∙◌}
use mathlib.Core.Logic.{◌⊎◌, inl, inr}
use mathlib.Core.Bool.{Bool, true, false, ◌||◌, true≢false}
use lib.Dec.{leb, ltb, eqb}
use lib.Ieee.{Float, nan, inf, fin, up, down, below, level, lt, eq, le, is_nan}
use lib.Ieee.Fits.{down_pos}
use borrow.Author.Tests.{ltb-true, ltb-false, leb-true, leb-false, eqb-true, lt-ltb, eq-eqb}
use Rattle.std.proofs.lemmas.Bool.{and_from, or_cases, or_left}
use Rattle.lists.proofs.Member.{and_left, and_right}

or_else : (p q : Bool) → (p ≡ false → q ≡ true) → (p || q) ≡ true
or_else true q h = refl
or_else false q h = h refl

-- ---- finite ones

abbrev plus : Bool → ℕ → ℕ
plus true a = 0
plus false a = a

abbrev minus : Bool → ℕ → ℕ
minus true a = a
minus false a = 0

module _ (a k b j : ℕ) where
  abbrev Least : Bool → Bool → Type 0
  Least s t = plus s a * k + minus t b * j ≤ plus t b * j + minus s a * k

  abbrev Less : Bool → Bool → Type 0
  Less s t = plus s a * k + minus t b * j < plus t b * j + minus s a * k

  less_is : (s t : Bool) → below s (a * k) t (b * j) ≡ true → Less s t
  less_is false false h = omega (arith, ltb-true (a * k) (b * j) h)
  less_is false true h = let z : ◌≡◌ {A = ℕ} 0 1 = cc in absurd (omega arith)
  less_is true false h = omega (arith, ltb-true 0 (a * k + b * j) h)
  less_is true true h = omega (arith, ltb-true (b * j) (a * k) h)

  is_less : (s t : Bool) → Less s t → below s (a * k) t (b * j) ≡ true
  is_less false false h = lt-ltb (a * k) (b * j) (omega arith)
  is_less false true h = absurd (omega arith)
  is_less true false h = lt-ltb 0 (a * k + b * j) (omega arith)
  is_less true true h = lt-ltb (b * j) (a * k) (omega arith)

  same : (s t : Bool) → level s (a * k) t (b * j) ≡ true → Least s t
  same false false h = omega (arith, eqb-true (a * k) (b * j) (and_left _ _ h))
  same false true h = omega (arith, eqb-true (a * k) (b * j) (and_left _ _ h), eqb-true (a * k) 0 (and_right (eqb (a * k) (b * j)) (eqb (a * k) 0) h))
  same true false h = omega arith
  same true true h = omega (arith, eqb-true (a * k) (b * j) (and_left _ _ h))

  least_is : (s t : Bool) → (below s (a * k) t (b * j) || level s (a * k) t (b * j)) ≡ true → Least s t
  least_is s t h = go (or_cases _ _ h)
    where
      go : (below s (a * k) t (b * j) ≡ true) ⊎ (level s (a * k) t (b * j) ≡ true) → Least s t
      go (inl p) = le_of_lt (less_is s t p)
      go (inr p) = same s t p

  is_least : (s t : Bool) → Least s t → (below s (a * k) t (b * j) || level s (a * k) t (b * j)) ≡ true
  is_least false false h =
      or_else (ltb (a * k) (b * j)) (level false (a * k) false (b * j))
      (λ e. and_from (eqb (a * k) (b * j)) true (eq-eqb (a * k) (b * j) (omega (arith, ltb-false (a * k) (b * j) e))) refl)
  is_least false true h = and_from (eqb (a * k) (b * j)) (eqb (a * k) 0) (eq-eqb (a * k) (b * j) (omega arith)) (eq-eqb (a * k) 0 (omega arith))
  is_least true false h =
      or_else (ltb 0 (a * k + b * j)) (level true (a * k) false (b * j))
      (λ e.
      and_from (eqb (a * k) (b * j)) (eqb (a * k) 0)
      (eq-eqb (a * k) (b * j) (omega (arith, ltb-false 0 (a * k + b * j) e)))
      (eq-eqb (a * k) 0 (omega (arith, ltb-false 0 (a * k + b * j) e))))
  is_least true true h =
      or_else (ltb (b * j) (a * k)) (level true (a * k) true (b * j))
      (λ e. and_from (eqb (a * k) (b * j)) true (eq-eqb (a * k) (b * j) (omega (arith, ltb-false (b * j) (a * k) e))) refl)

  -- one of the two holds
  total : (s t : Bool) → (below s (a * k) t (b * j) || level s (a * k) t (b * j)) ≡ false → plus t b * j + minus s a * k < plus s a * k + minus t b * j
  total s t h = go (leb (plus s a * k + minus t b * j) (plus t b * j + minus s a * k)) refl
    where
      go : (c : Bool) → leb (plus s a * k + minus t b * j) (plus t b * j + minus s a * k) ≡ c → plus t b * j + minus s a * k < plus s a * k + minus t b * j
      go true e = absurd (true≢false (sym (is_least s t (leb-true _ _ e)) ∙ h))
      go false e = leb-false _ _ e

-- over a third: multiplied by the third's denominator, added up, and divided by the second's
chain : (p m k q n j r o i : ℕ) → 0 < j → p * j + n * k ≤ q * k + m * j → q * i + o * j ≤ r * j + n * i → p * i + o * k ≤ r * k + m * i
chain p m k q n j r o i some g h = le_of_mul-le-mul_right {k = j} (omega (arith, mul-le-mul_right i g, mul-le-mul_right k h)) some

-- ---- all

pub lt_le : (x y : Float) → lt x y ≡ true → le x y ≡ true
unfolding le
lt_le x y h = or_left _ _ h

pub le_refl : (x : Float) → is_nan x ≡ false → le x x ≡ true
unfolding lt eq le is_nan
le_refl nan h = absurd (true≢false h)
le_refl (inf true) h = refl
le_refl (inf false) h = refl
le_refl (fin s m e) h = is_least (m * up e) (down e) (m * up e) (down e) s s (omega arith)

-- of two that are no NaN, the second is below the first where the first is neither below nor equal
pub not_le : (x y : Float) → is_nan x ≡ false → is_nan y ≡ false → le x y ≡ false → lt y x ≡ true
unfolding lt eq le is_nan
not_le nan y p q h = absurd (true≢false p)
not_le (inf s) nan p q h = absurd (true≢false q)
not_le (inf true) (inf true) p q h = absurd (true≢false h)
not_le (inf true) (inf false) p q h = absurd (true≢false h)
not_le (inf false) (inf true) p q h = refl
not_le (inf false) (inf false) p q h = absurd (true≢false h)
not_le (inf true) (fin t n d) p q h = absurd (true≢false h)
not_le (inf false) (fin t n d) p q h = refl
not_le (fin s m e) nan p q h = absurd (true≢false q)
not_le (fin s m e) (inf true) p q h = refl
not_le (fin s m e) (inf false) p q h = absurd (true≢false h)
not_le (fin s m e) (fin t n d) p q h = is_less (n * up d) (down e) (m * up e) (down d) t s (total (m * up e) (down d) (n * up d) (down e) s t h)

pub lt_not_le : (x y : Float) → lt x y ≡ true → le y x ≡ true → ⊥
unfolding lt eq le
lt_not_le nan y g h = true≢false (sym g)
lt_not_le (inf s) nan g h = true≢false (sym g)
lt_not_le (inf true) (inf true) g h = true≢false (sym g)
lt_not_le (inf true) (inf false) g h = true≢false (sym h)
lt_not_le (inf false) (inf t) g h = true≢false (sym g)
lt_not_le (inf true) (fin t n d) g h = true≢false (sym h)
lt_not_le (inf false) (fin t n d) g h = true≢false (sym g)
lt_not_le (fin s m e) nan g h = true≢false (sym g)
lt_not_le (fin s m e) (inf true) g h = true≢false (sym g)
lt_not_le (fin s m e) (inf false) g h = true≢false (sym h)
lt_not_le (fin s m e) (fin t n d) g h =
    let a = less_is (m * up e) (down d) (n * up d) (down e) s t g in
    let b = least_is (n * up d) (down e) (m * up e) (down d) t s h in
    omega arith

-- what is compared and found less or equal is no NaN, on either side
pub le_left : (x y : Float) → le x y ≡ true → is_nan x ≡ false
unfolding lt eq le is_nan
le_left nan y h = sym h
le_left (inf s) y h = refl
le_left (fin s m e) y h = refl

pub le_right : (x y : Float) → le x y ≡ true → is_nan y ≡ false
unfolding lt eq le is_nan
le_right nan y h = absurd (true≢false (sym h))
le_right (inf s) nan h = sym h
le_right (inf s) (inf t) h = refl
le_right (inf s) (fin t n d) h = refl
le_right (fin s m e) nan h = sym h
le_right (fin s m e) (inf t) h = refl
le_right (fin s m e) (fin t n d) h = refl

lowest : (y : Float) → is_nan y ≡ false → le (inf true) y ≡ true
unfolding lt eq le is_nan
lowest nan h = absurd (true≢false h)
lowest (inf true) h = refl
lowest (inf false) h = refl
lowest (fin t n d) h = refl

pub le_trans : (x y z : Float) → le x y ≡ true → le y z ≡ true → le x z ≡ true
unfolding lt eq le
le_trans nan y z g h = absurd (true≢false (sym g))
le_trans (inf true) y z g h = lowest z (le_right y z h)
le_trans (inf false) nan z g h = absurd (true≢false (sym g))
le_trans (inf false) (inf true) z g h = absurd (true≢false (sym g))
le_trans (inf false) (inf false) z g h = h
le_trans (inf false) (fin t n d) z g h = absurd (true≢false (sym g))
le_trans (fin s m e) nan z g h = absurd (true≢false (sym g))
le_trans (fin s m e) (inf true) z g h = absurd (true≢false (sym g))
le_trans (fin s m e) (inf false) nan g h = absurd (true≢false (sym h))
le_trans (fin s m e) (inf false) (inf true) g h = absurd (true≢false (sym h))
le_trans (fin s m e) (inf false) (inf false) g h = refl
le_trans (fin s m e) (inf false) (fin u l f) g h = absurd (true≢false (sym h))
le_trans (fin s m e) (fin t n d) nan g h = absurd (true≢false (sym h))
le_trans (fin s m e) (fin t n d) (inf true) g h = absurd (true≢false (sym h))
le_trans (fin s m e) (fin t n d) (inf false) g h = refl
le_trans (fin s m e) (fin t n d) (fin u l f) g h =
    is_least (m * up e) (down f) (l * up f) (down e) s u
    (chain (plus s (m * up e)) (minus s (m * up e)) (down e) (plus t (n * up d)) (minus t (n * up d)) (down d) (plus u (l * up f)) (minus u (l * up f)) (down f) (down_pos d)
    (least_is (m * up e) (down d) (n * up d) (down e) s t g)
    (least_is (n * up d) (down f) (l * up f) (down d) t u h))

-- below one that is not above another
pub lt_le_trans : (x y z : Float) → lt x y ≡ true → le y z ≡ true → is_nan x ≡ false → is_nan z ≡ false → lt x z ≡ true
lt_le_trans x y z g h p q = go (le z x) refl
  where
    go : (b : Bool) → le z x ≡ b → lt x z ≡ true
    go true e = absurd (lt_not_le x y g (le_trans y z x h e))
    go false e = not_le z x q p e
