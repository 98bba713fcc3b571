-- Small blocks, computed (SPEC 15.1, 15.2): each tells the rule from a near miss.
use Rattle.std.proofs.Common.{◌≡◌, true, false, [], ◌∷◌, pos, negsuc, refl}
use lib.Ieee.{Float, nan, fin, add, mul}
use Rattle.node.specs.Refusal.{refused, gives}
use Rattle.bus.specs.Rate.{rate_of}
use Rattle.bus.specs.Block.{each, block_of}
use Rattle.bus.specs.Fade.{silence, fade_answer, fade_output}
use Rattle.bus.specs.Sum.{channels, every_is_channels, summed_by, sum_fits, sum_answer, sum_output}

abbrev one : Float
one = fin false 1 (pos 0)

abbrev half : Float
half = fin false 1 (negsuc 0)

abbrev minus_one : Float
minus_one = fin true 1 (pos 0)

abbrev minus_zero : Float
minus_zero = fin true 0 (pos 0)

-- 2 ^ 24, above which an f32 does not count every whole number
abbrev large : Float
large = fin false 1 (pos 24)

-- the highest rate is 375 * 2 ^ 10; one more, a fraction, -0 and a NaN are none
highest : rate_of (fin false 375 (pos 10)) ≡ gives 384000
unfolding rate_of
highest = refl

too_high : rate_of (fin false 384001 (pos 0)) ≡ refused 1
unfolding rate_of
too_high = refl

fraction : rate_of (fin false 88201 (negsuc 0)) ≡ refused 1
unfolding rate_of
fraction = refl

no_rate : rate_of minus_zero ≡ refused 1
unfolding rate_of
no_rate = refl

-- from position 1 of a fade of 2, the second gain, and then 0, which multiplies: -1 gives -0, and a NaN stays
fades : fade_output (minus_one ∷ minus_one ∷ nan ∷ []) 1 (one ∷ half ∷ []) 2 1 3 (one ∷ one ∷ one ∷ []) 1 ≡ fin true 1 (negsuc 0) ∷ minus_zero ∷ nan ∷ []
unfolding block_of each mul
fades = refl

-- at the last position that there is, all gains are 0
far : fade_output (one ∷ one ∷ []) 1 (half ∷ []) 1 18446744073709551615 2 (one ∷ one ∷ []) 1 ≡ silence ∷ silence ∷ []
unfolding block_of each mul
far = refl

-- one gain is missing
short : fade_answer (one ∷ []) 1 (one ∷ []) 2 1 (half ∷ []) 1 ≡ refused 16
short = refl

left : fade_output (one ∷ []) 1 (one ∷ []) 2 0 1 (half ∷ []) 1 ≡ half ∷ []
left = refl

-- a mono input feeds both channels, and of a stereo input a mono output has channel 0
both : fade_output (one ∷ half ∷ []) 1 (one ∷ one ∷ []) 2 0 2 (one ∷ one ∷ one ∷ one ∷ []) 2 ≡ one ∷ half ∷ one ∷ half ∷ []
unfolding block_of each mul
both = refl

first : fade_output (one ∷ half ∷ []) 2 (one ∷ []) 1 0 1 (minus_one ∷ []) 1 ≡ one ∷ []
unfolding block_of each mul
first = refl

-- no input gives +0, and so does one of -0, which a sum from the first input on would leave
none : sum_output [] [] 2 (one ∷ one ∷ []) 1 ≡ silence ∷ silence ∷ []
unfolding sum_fits channels every_is_channels block_of each summed_by
none = refl

zero : sum_output (minus_zero ∷ []) (1 ∷ []) 1 (one ∷ []) 1 ≡ silence ∷ []
unfolding sum_fits channels every_is_channels block_of each summed_by add
zero = refl

-- each addition rounds: 2 ^ 24 and 1 and 1 stay 2 ^ 24, and in the other order they do not
rounds : sum_output (large ∷ one ∷ one ∷ []) (1 ∷ 1 ∷ 1 ∷ []) 1 (one ∷ []) 1 ≡ large ∷ []
unfolding sum_fits channels every_is_channels block_of each summed_by add
rounds = refl

rises : sum_output (one ∷ one ∷ large ∷ []) (1 ∷ 1 ∷ 1 ∷ []) 1 (one ∷ []) 1 ≡ fin false 8388609 (pos 1) ∷ []
unfolding sum_fits channels every_is_channels block_of each summed_by add
rises = refl

-- a stereo and a mono input to a stereo output
mixed : sum_output (one ∷ half ∷ half ∷ []) (2 ∷ 1 ∷ []) 1 (one ∷ one ∷ []) 2 ≡ fin false 3 (negsuc 0) ∷ one ∷ []
unfolding sum_fits channels every_is_channels block_of each summed_by add
mixed = refl

-- a count of 3
wide : sum_answer (one ∷ one ∷ one ∷ []) (3 ∷ []) 1 (one ∷ []) 1 ≡ refused 16
unfolding sum_fits channels every_is_channels
wide = refl
