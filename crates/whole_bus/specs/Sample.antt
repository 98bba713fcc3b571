-- Samples and gains as whole numbers (SPEC 2), a sample under a gain, and a sum that is clipped (SPEC 15.3).
-- Definitions only, over whole numbers with their signs.
use Rattle.std.specs.Prelude.{ℕ, Bool, ◌&&◌, cond, leb, ℤ, pos, negsuc, ◌+ℤ◌, ◌*ℤ◌, ◌≤ℤ◌, ◌<ℤ◌}
use Rattle.std.specs.Int.Signed.{le_z, lt_z, shr_z}

-- the lowest sample, -2^23, and the highest, 2^23 - 1
abbrev pub lowest : ℤ
lowest = negsuc 8388607

abbrev pub highest : ℤ
highest = pos 8388607

abbrev pub is_sample : ℤ → Bool
is_sample x = le_z lowest x && le_z x highest

-- full gain, 2^24, above which there is none
abbrev pub full : ℕ
full = 16777216

abbrev pub is_gain : ℕ → Bool
is_gain g = leb g full

-- half of full gain, which is half a step of the product
abbrev pub half : ℕ
half = 8388608

-- The faded sample is the whole number nearest to the exact product, halves going up (SPEC 15.3, 21.7). The product is
-- x × g / 2^24, so that r steps are r × 2^24 of it: r lies at most half a step above it, and less than half a step
-- below.
pub record Nearest (x : ℤ) (g : ℕ) (r : ℤ) : Type 0 where
  pub above : (r *ℤ pos full) ≤ℤ (x *ℤ pos g +ℤ pos half)
  pub below : (x *ℤ pos g) <ℤ (r *ℤ pos full +ℤ pos half)

-- That number: half a step is added to the product, and the quotient is rounded down. proofs/Rounding shows that it is the nearest and that no other is.
unfoldable pub faded_sample : ℤ → ℕ → ℤ
faded_sample x g = shr_z (x *ℤ pos g +ℤ pos half) full

-- a number beyond the range of samples becomes its end
unfoldable pub clipped : ℤ → ℤ
clipped z = cond (lt_z z lowest) lowest (cond (lt_z highest z) highest z)
