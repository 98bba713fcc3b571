-- What is asked of a faded sample and of a clipped sum (SPEC 15.3, 21.7).
--     faded_nearest, nearest_only   the faded sample differs from the exact product by at most half a step, halves going up; no other number does
--     faded_full, faded_silent      full gain changes nothing, and gain 0 leaves silence
--     faded_range                   a faded sample is a sample
--     clipped_range, clipped_same, clipped_low, clipped_high   a clipped number is a sample; it is the number itself, or else the end of the range on its side
use Prim.Native.Nat.{ℕ, ◌+◌, ◌*◌, ◌≤◌, ◌<◌}
use native.Mathlib.Nat.{mul-le-mul_left}
use native.Mathlib.Omega.{arith}
use mathlib.Core.Path.{◌≡◌, refl, sym, ap, subst}
use mathlib.Core.Bool.{Bool, true, false, not, cond}
use Rattle.std.specs.Int.{int_min, int_max}
use Rattle.std.proofs.lemmas.Int.{ints, clamps}
use lib.Dec.{T, leb→le}
use lib.IntN.{ℤ, pos, negsuc, ◌+ℤ◌, ◌*ℤ◌, *ℤ-zero}
use lib.Signed.{le_z, lt_z, shr_z, lt_z_no}
use lib.Ieee.Fits.{and_l, and_r, and_i}
use Rattle.whole_bus.specs.Sample.{lowest, highest, is_sample, full, is_gain, half, Nearest, faded_sample, clipped}
use Rattle.whole_bus.proofs.Whole.{over, under, same, le_of, le_is, lt_of, lt_is, add_is, over_times, under_times}

-- ---- rounded down

down_below : (a : ℤ) → over (shr_z a full) * full + under a ≤ over a + under (shr_z a full) * full
unfolding over under
down_below (pos a) = omega arith
down_below (negsuc a) = omega arith

down_above : (a : ℤ) → over a + under (shr_z a full) * full < over (shr_z a full) * full + under a + full
unfolding over under
down_above (pos a) = omega arith
down_above (negsuc a) = omega arith

pub faded_nearest : (x : ℤ) (g : ℕ) → Nearest x g (faded_sample x g)
unfolding faded_sample over under
faded_nearest x g =
    let z = x *ℤ pos g in
    let a = z +ℤ pos half in
    let r = shr_z a full in
    let low = down_below a in
    let high = down_above a in
    let sum = add_is z (pos half) in
    let steps = add_is (r *ℤ pos full) (pos half) in
    let o = over_times r full in
    let u = under_times r full in
    record {
      above = record { le = le_of (r *ℤ pos full) a (omega arith) };
      below = record { lt = lt_of z (r *ℤ pos full +ℤ pos half) (go (over z) (under z) (over a) (under a) (over r) (under r) _ _ _ _ low high sum steps o u) };
    }
  where
    go : (oz uz oa ua or ur os us ot ut : ℕ) → or * full + ua ≤ oa + ur * full → oa + ur * full < or * full + ua + full
        → oa + uz + 0 ≡ oz + half + ua → os + ut + 0 ≡ ot + half + us → ot ≡ or * full → ut ≡ ur * full → oz + us < os + uz
    go oz uz oa ua or ur os us ot ut low high sum steps o u = omega arith

-- two numbers that are nearest are one
pub nearest_only : (x : ℤ) (g : ℕ) (r s : ℤ) → Nearest x g r → Nearest x g s → r ≡ s
unfolding over under
nearest_only x g r s p q =
    let z = x *ℤ pos g in
    same r s
    (go (over z) (under z) (over (z +ℤ pos half)) (under (z +ℤ pos half)) (over r) (under r) (over s) (under s) _ _ _ _ _ _ _ _
    (le_is (r *ℤ pos full) (z +ℤ pos half) p.above.le) (lt_is z (r *ℤ pos full +ℤ pos half) p.below.lt)
    (le_is (s *ℤ pos full) (z +ℤ pos half) q.above.le) (lt_is z (s *ℤ pos full +ℤ pos half) q.below.lt)
    (add_is z (pos half)) (add_is (r *ℤ pos full) (pos half)) (add_is (s *ℤ pos full) (pos half))
    (over_times r full) (under_times r full) (over_times s full) (under_times s full))
  where
    go : (oz uz oa ua or ur os us opr upr osr usr ops ups oss uss : ℕ)
        → opr + ua ≤ oa + upr → oz + usr < osr + uz → ops + ua ≤ oa + ups → oz + uss < oss + uz
        → oa + uz + 0 ≡ oz + half + ua → osr + upr + 0 ≡ opr + half + usr → oss + ups + 0 ≡ ops + half + uss
        → opr ≡ or * full → upr ≡ ur * full → ops ≡ os * full → ups ≡ us * full → or + us ≡ os + ur
    go oz uz oa ua or ur os us opr upr osr usr ops ups oss uss a b c d e f g h i j k = omega arith

-- 02: "full gain changes nothing, at -2^23 too": at any number
pub faded_full : (x : ℤ) → faded_sample x full ≡ x
unfolding over under
faded_full x = nearest_only x full (faded_sample x full) x (faded_nearest x full) itself
  where
    itself : Nearest x full x
    itself =
        let z = x *ℤ pos full in
        let sum = add_is z (pos half) in
        record { above = record { le = le_of z (z +ℤ pos half) (first (over z) (under z) _ _ sum) }; below = record { lt = lt_of z (z +ℤ pos half) (second (over z) (under z) _ _ sum) } }
      where
        first : (oz uz oa ua : ℕ) → oa + uz + 0 ≡ oz + half + ua → oz + ua ≤ oa + uz
        first oz uz oa ua e = omega arith

        second : (oz uz oa ua : ℕ) → oa + uz + 0 ≡ oz + half + ua → oz + ua < oa + uz
        second oz uz oa ua e = omega arith

-- gain 0 leaves silence
pub faded_silent : (x : ℤ) → faded_sample x 0 ≡ pos 0
unfolding faded_sample
faded_silent x = ap (λ (z : ℤ). shr_z (z +ℤ pos half) full) (*ℤ-zero x)

-- ---- the range

pub sample_is : (x : ℤ) → T (is_sample x) → (over x < half) × (under x ≤ half)
unfolding over under
sample_is x t =
    let l = le_is lowest x (and_l (le_z lowest x) (le_z x highest) t) in
    let h = le_is x highest (and_r (le_z lowest x) (le_z x highest) t) in
    go x l h
  where
    go : (x : ℤ) → over lowest + under x ≤ over x + under lowest → over x + under highest ≤ over highest + under x → (over x < half) × (under x ≤ half)
    go (pos a) l h = (omega arith, omega arith)
    go (negsuc a) l h = (omega arith, omega arith)

pub sample_of : (x : ℤ) → over x < half → under x ≤ half → T (is_sample x)
unfolding over under
sample_of x o u = and_i (le_z lowest x) (le_z x highest) (le_of lowest x (low x o u)) (le_of x highest (high x o u))
  where
    low : (x : ℤ) → over x < half → under x ≤ half → over lowest + under x ≤ over x + under lowest
    low x o u = omega arith

    high : (x : ℤ) → over x < half → under x ≤ half → over x + under highest ≤ over highest + under x
    high x o u = omega arith

by_sign : (r : ℤ) → over r < half + under r → under r ≤ half + over r → (over r < half) × (under r ≤ half)
unfolding over under
by_sign (pos a) h k = (omega arith, omega arith)
by_sign (negsuc a) h k = (omega arith, omega arith)

-- a faded sample is a sample
pub faded_range : (x : ℤ) (g : ℕ) → T (is_sample x) → T (is_gain g) → T (is_sample (faded_sample x g))
unfolding over under
faded_range x g s t =
    let within = sample_is x s in
    let small = leb→le g full t in
    let n = faded_nearest x g in
    let r = faded_sample x g in
    let z = x *ℤ pos g in
    let most : over x * g ≤ over x * full = mul-le-mul_left (over x) small in
    let least : under x * g ≤ under x * full = mul-le-mul_left (under x) small in
    let two = go (over x) (under x) (over x * g) (under x * g) (over z) (under z) (over (z +ℤ pos half)) (under (z +ℤ pos half)) (over r) (under r) _ _ _ _
    within.0 within.1 most least (over_times x g) (under_times x g)
    (le_is (r *ℤ pos full) (z +ℤ pos half) n.above.le) (lt_is z (r *ℤ pos full +ℤ pos half) n.below.lt)
    (add_is z (pos half)) (add_is (r *ℤ pos full) (pos half)) (over_times r full) (under_times r full) in
    let ends = by_sign r two.0 two.1 in
    sample_of r ends.0 ends.1
  where
    go : (ox ux om um oz uz oa ua or ur op up os us : ℕ) → ox < half → ux ≤ half → om ≤ ox * full → um ≤ ux * full → oz ≡ om → uz ≡ um
        → op + ua ≤ oa + up → oz + us < os + uz → oa + uz + 0 ≡ oz + half + ua → os + up + 0 ≡ op + half + us → op ≡ or * full → up ≡ ur * full
        → (or < half + ur) × (ur ≤ half + or)
    go ox ux om um oz uz oa ua or ur op up os us a b c d e f g h i j k l = (omega arith, omega arith)

-- ---- clipped

-- by the tests, as they came out
clip_range : (z : ℤ) (low high : Bool) → lt_z z lowest ≡ low → lt_z highest z ≡ high → T (is_sample (cond low lowest (cond high highest z)))
clip_range z true high e f = tt
clip_range z false true e f = tt
clip_range z false false e f =
    and_i (le_z lowest z) (le_z z highest) (lt_z_no {a = z} {b = lowest} (subst (λ (b : Bool). T (not b)) (sym e) tt)).le (lt_z_no {a = highest} {b = z} (subst (λ (b : Bool). T (not b)) (sym f) tt)).le

pub clipped_range : (z : ℤ) → T (is_sample (clipped z))
unfolding clipped
clipped_range z = clip_range z (lt_z z lowest) (lt_z highest z) refl refl

-- a number in the range stays
pub clipped_same : (z : ℤ) → T (is_sample z) → clipped z ≡ z
unfolding clipped over under
clipped_same z t =
    let within = sample_is z t in
    go (lt_z z lowest) refl (lt_z highest z) refl within.0 within.1
  where
    go : (low : Bool) → lt_z z lowest ≡ low → (high : Bool) → lt_z highest z ≡ high → over z < half → under z ≤ half → cond low lowest (cond high highest z) ≡ z
    go true e high f o u = let l = lt_is z lowest (subst T (sym e) tt) in absurd (omega arith)
    go false e true f o u = let l = lt_is highest z (subst T (sym f) tt) in absurd (omega arith)
    go false e false f o u = refl

-- a number below the range becomes its lowest, -2^23, and one above it its highest
pub clipped_low : (z : ℤ) → T (lt_z z lowest) → clipped z ≡ lowest
unfolding clipped
clipped_low z t = go (lt_z z lowest) t
  where
    go : (low : Bool) → T low → cond low lowest (cond (lt_z highest z) highest z) ≡ lowest
    go true t = refl
    go false t = absurd t

pub clipped_high : (z : ℤ) → T (lt_z highest z) → clipped z ≡ highest
unfolding clipped over under
clipped_high z t = go (lt_z z lowest) refl (lt_z highest z) t
  where
    go : (low : Bool) → lt_z z lowest ≡ low → (high : Bool) → T high → cond low lowest (cond high highest z) ≡ highest
    go true e high h = let l = lt_is z lowest (subst T (sym e) tt) in let k = lt_is highest z t in absurd (omega arith)
    go false e true h = refl
    go false e false h = absurd h

-- the machine's `clamp`
pub clamp_is : (z : ℤ) → int_max lowest (int_min z highest) ≡ clipped z
unfolding clipped
clamp_is z = grind (arith, ints, clamps)
