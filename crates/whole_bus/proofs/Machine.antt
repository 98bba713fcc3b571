-- The machine's words for signed numbers: a local holds bits, and what is computed is read back from them. Where each result fits its width, that is the number itself.
--     the faded sample, step by step, as `faded_sample` works it out
use Prim.Native.Nat.{ℕ, ◌+◌, ◌*◌, ◌/◌, ◌^◌, ◌≤◌, ◌<◌}
use native.Mathlib.Nat.{add-mul, mul-le-mul_left, mul-le-mul_right, le_trans, le_of_lt}
use native.Mathlib.Omega.{arith}
use mathlib.Core.Path.{◌≡◌, sym, ap, ◌∙◌, subst}
use lib.Dec.{T, leb→le}
use lib.IntN.{ℤ, pos, nat_abs, neg_ℤ, ◌+ℤ◌, ◌-ℤ◌, ◌*ℤ◌}
use mir.Syntax.{w32, w64}
use mir.Val.{Fits, SFits, to_z, of_z}
use mir.ValLaws.{to_z-of_z, to_z_pos}
use Rattle.whole_bus.specs.Sample.{is_sample, full, is_gain, half, Nearest, faded_sample}
use Rattle.whole_bus.proofs.Whole.{over, under, le_of, lt_of, mag_below, add_is, add_within, negative, over_times, under_times, raised, raised_is, raised_counts, difference}
use Rattle.whole_bus.proofs.Rounding.{sample_is, faded_nearest, nearest_only, faded_range}

-- a number within the bounds of 32 bits fits them
pub fits_32 : (z : ℤ) → over z < 2 ^ 31 → under z ≤ 2 ^ 31 → SFits w32 z
fits_32 z o u = record { sfits = mag_below z (2 ^ 31) o u }

less_is : (a b : ℕ) → a < 2 ^ 31 → b < 2 ^ 31 → to_z w32 a -ℤ to_z w32 b ≡ pos a -ℤ pos b
less_is a b h k = ap (λ (z : ℤ). z -ℤ to_z w32 b) (to_z_pos w32 a h) ∙ ap (λ (z : ℤ). pos a -ℤ z) (to_z_pos w32 b k)

pub less_fits : (a b : ℕ) → a < 2 ^ 31 → b < 2 ^ 31 → SFits w32 (to_z w32 a -ℤ to_z w32 b)
unfolding over under
less_fits a b h k =
    let w = add_within (pos a) (neg_ℤ (pos b)) in
    let n = negative b in
    subst (SFits w32) (sym (less_is a b h k)) (fits_32 (pos a -ℤ pos b) (omega (arith, n.0, n.1)) (omega (arith, n.0, n.1)))

pub less_read : (a b : ℕ) → a < 2 ^ 31 → b < 2 ^ 31 → to_z w32 (of_z w32 (to_z w32 a -ℤ to_z w32 b)) ≡ pos a -ℤ pos b
less_read a b h k = to_z-of_z w32 _ (less_fits a b h k) ∙ less_is a b h k

-- what `faded_sample` works with: the sample raised by full gain, and the quotient, from which the gain is to be taken off
abbrev lifted : ℤ → ℕ
lifted x = raised full x

abbrev quotient : ℤ → ℕ → ℕ
quotient x g = (lifted x * g + half) / full

-- the quotient less the gain lies next to the exact product, as the faded sample does
pub lifted_nearest : (x : ℤ) (g : ℕ) → under x ≤ full → Nearest x g (pos (quotient x g) -ℤ pos g)
unfolding over under
lifted_nearest x g u =
    let r = pos (quotient x g) -ℤ pos g in
    let z = x *ℤ pos g in
    let a = z +ℤ pos half in
    let lift : lifted x * g + under x * g ≡ over x * g + full * g =
    sym (add-mul (lifted x) (under x) g) ∙ ap (λ (n : ℕ). n * g) (raised_counts full x u) ∙ add-mul (over x) full g in
    let both = go (lifted x * g) (over x * g) (under x * g) g (over r) (under r) (over z) (under z) (over a) (under a) _ _ _ _ lift (difference (quotient x g) g)
    (over_times x g) (under_times x g) (add_is z (pos half)) (add_is (r *ℤ pos full) (pos half)) (over_times r full) (under_times r full) in
    record { above = record { le = le_of (r *ℤ pos full) a both.0 }; below = record { lt = lt_of z (r *ℤ pos full +ℤ pos half) both.1 } }
  where
    go : (l ox ux g or ur oz uz oa ua op up os us : ℕ) → l + ux ≡ ox + full * g → or + g ≡ (l + half) / full + ur → oz ≡ ox → uz ≡ ux
        → oa + uz + 0 ≡ oz + half + ua → os + up + 0 ≡ op + half + us → op ≡ or * full → up ≡ ur * full
        → (op + ua ≤ oa + up) × (oz + us < os + uz)
    go l ox ux g or ur oz uz oa ua op up os us a b c d e f h i = (omega arith, omega arith)

module _ (x : ℤ) (g : ℕ) (inside : T (is_sample x)) (gain : T (is_gain g)) where
  low : under x ≤ full
  low = let w = sample_is x inside in omega arith

  small : g ≤ full
  small = leb→le g full gain

  narrow : SFits w32 x
  narrow = let w = sample_is x inside in fits_32 x (omega arith) (omega arith)

  -- the raised sample, which needs 25 bits
  lifted_small : lifted x < 2 ^ 25
  lifted_small = let w = sample_is x inside in let n = raised_counts full x low in omega arith

  sum_is : to_z w32 (of_z w32 x) +ℤ pos full ≡ pos (lifted x)
  sum_is = ap (λ (z : ℤ). z +ℤ pos full) (to_z-of_z w32 x narrow) ∙ raised_is full x low

  pub lifted_fits : SFits w32 (to_z w32 (of_z w32 x) +ℤ pos full)
  lifted_fits = subst (SFits w32) (sym sum_is) (record { sfits = omega (arith, lifted_small) })

  read_lifted : to_z w32 (of_z w32 (to_z w32 (of_z w32 x) +ℤ pos full)) ≡ pos (lifted x)
  read_lifted = to_z-of_z w32 _ lifted_fits ∙ sum_is

  -- as a number without a sign
  abbrev lifted_read : ℕ
  lifted_read = nat_abs (to_z w32 (of_z w32 (to_z w32 (of_z w32 x) +ℤ pos full)))

  lifted_read_lem : lifted_read ≡ lifted x
  lifted_read_lem = ap nat_abs read_lifted

  product : lifted x * g ≤ 2 ^ 25 * full
  product = le_trans (mul-le-mul_left (lifted x) small) (mul-le-mul_right full (le_of_lt lifted_small))

  pub sum_fits : Fits w64 (lifted_read * g + half)
  sum_fits = subst (λ (n : ℕ). Fits w64 (n * g + half)) (sym lifted_read_lem) (record { fits = omega (arith, product) })

  quotient_small : quotient x g < 2 ^ 31
  quotient_small = omega (arith, product)

  -- the difference is the faded sample
  difference_is : to_z w32 ((lifted_read * g + half) / full) -ℤ to_z w32 g ≡ faded_sample x g
  difference_is =
      ap (λ (n : ℕ). to_z w32 ((n * g + half) / full) -ℤ to_z w32 g) lifted_read_lem
      ∙ ap (λ (z : ℤ). z -ℤ to_z w32 g) (to_z_pos w32 (quotient x g) quotient_small)
      ∙ ap (λ (z : ℤ). pos (quotient x g) -ℤ z) (to_z_pos w32 g (let s = small in omega arith))
      ∙ nearest_only x g _ _ (lifted_nearest x g low) (faded_nearest x g)

  ends : SFits w32 (faded_sample x g)
  ends = let w = sample_is (faded_sample x g) (faded_range x g inside gain) in fits_32 (faded_sample x g) (omega arith) (omega arith)

  pub difference_fits : SFits w32 (to_z w32 ((lifted_read * g + half) / full) -ℤ to_z w32 g)
  difference_fits = subst (SFits w32) (sym difference_is) ends

  pub read_faded : to_z w32 (of_z w32 (to_z w32 ((lifted_read * g + half) / full) -ℤ to_z w32 g)) ≡ faded_sample x g
  read_faded = to_z-of_z w32 _ difference_fits ∙ difference_is
