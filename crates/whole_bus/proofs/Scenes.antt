-- Small blocks, computed (SPEC 15.3): each tells the rule from a near miss.
use mathlib.Core.Path.{◌≡◌, refl}
use mathlib.Core.List.{[], ◌∷◌}
use Rattle.std.specs.Prelude.{None, Some}
use lib.IntN.{pos, negsuc}
use Rattle.node.specs.declared.refusal.Refusal.TheVariants.{LentBlock, OutOfRange}
use Rattle.bus.specs.Block.{each, block_of}
use Rattle.bus.specs.Sum.{channels, every_is_channels, summed_by, sum_fits}
use Rattle.whole_bus.specs.Sample.{lowest, highest, full, half, faded_sample, clipped}
use Rattle.whole_bus.specs.Block.{every, fade_refusal, fade_output, sum_refusal, sum_output}

-- Half of 1 goes up to 1, half of -1 up to 0, and half of 3 and -3 up to 2 and -1. Refuses: halves down, to the even one, away from 0; a quotient cut off toward 0.
halves : (faded_sample (pos 1) half ≡ pos 1) × (faded_sample (negsuc 0) half ≡ pos 0) × (faded_sample (pos 3) half ≡ pos 2) × (faded_sample (negsuc 2) half ≡ negsuc 0)
unfolding faded_sample
halves = (refl, refl, refl, refl)

-- next to the halves: less than half a step is lost on either side
near : (faded_sample (pos 1) 8388607 ≡ pos 0) × (faded_sample (negsuc 0) 8388609 ≡ negsuc 0) × (faded_sample (negsuc 1) 12582912 ≡ negsuc 0) × (faded_sample (negsuc 1) 12582913 ≡ negsuc 1)
unfolding faded_sample
near = (refl, refl, refl, refl)

-- "full gain changes nothing, at -2^23 too". Refuses: full gain as 2^24 - 1; a result clipped at -(2^23 - 1).
ends : (faded_sample lowest full ≡ lowest) × (faded_sample highest full ≡ highest) × (faded_sample lowest 16777215 ≡ negsuc 8388606)
unfolding faded_sample
ends = (refl, refl, refl)

-- A fade of 2 from position 1: the second gain, and then 0. Refuses: the gains from the block's start on; the last gain held.
fades : fade_output (pos 100 ∷ pos 100 ∷ pos 100 ∷ []) 1 (full ∷ half ∷ []) 2 1 3 (pos 7 ∷ pos 7 ∷ pos 7 ∷ []) 1 ≡ pos 50 ∷ pos 0 ∷ pos 0 ∷ []
unfolding block_of each every faded_sample
fades = refl

-- A mono input feeds both channels, and of a stereo input a mono output has channel 0.
both : fade_output (pos 1 ∷ pos 2 ∷ []) 1 (full ∷ full ∷ []) 2 0 2 (pos 7 ∷ pos 7 ∷ pos 7 ∷ pos 7 ∷ []) 2 ≡ pos 1 ∷ pos 2 ∷ pos 1 ∷ pos 2 ∷ []
unfolding block_of each every faded_sample
both = refl

first : fade_output (pos 1 ∷ pos 2 ∷ []) 2 (full ∷ []) 1 0 1 (pos 7 ∷ []) 1 ≡ pos 1 ∷ []
unfolding block_of each every faded_sample
first = refl

-- 21 for a gain past the fade's length, for one that this block does not use, and for a sample of a channel that no output reads; 2^24 is a gain. 16 goes before 21.
-- Refuses: gains and samples tested only where they are used; a gain of 2^24 refused; 21 before 16.
tested :
    (fade_refusal (pos 0 ∷ []) 1 (full ∷ 16777217 ∷ []) 1 1 1 1 ≡ Some OutOfRange)
    × (fade_refusal (pos 0 ∷ []) 1 (16777217 ∷ full ∷ []) 2 1 1 1 ≡ Some OutOfRange)
    × (fade_refusal (pos 0 ∷ pos 8388608 ∷ []) 2 (full ∷ []) 1 1 1 1 ≡ Some OutOfRange)
    × (fade_refusal (negsuc 8388608 ∷ []) 1 (full ∷ []) 1 1 1 1 ≡ Some OutOfRange)
    × (fade_refusal (lowest ∷ []) 1 (full ∷ []) 1 1 1 1 ≡ None)
    × (fade_refusal (pos 8388608 ∷ []) 1 (16777217 ∷ []) 2 1 1 1 ≡ Some LentBlock)
unfolding every
tested = (refl, refl, refl, refl, refl, refl)

-- and the output stays
stays : fade_output (pos 8388608 ∷ []) 1 (full ∷ []) 1 0 1 (pos 7 ∷ []) 1 ≡ pos 7 ∷ []
unfolding every
stays = refl

-- The sum passes the end of the range and comes back: it is exact, and only its end is clipped. Refuses: a sum clipped at each addition.
returns : sum_output (highest ∷ highest ∷ lowest ∷ []) (1 ∷ 1 ∷ 1 ∷ []) 1 (pos 7 ∷ []) 1 ≡ pos 8388606 ∷ []
unfolding sum_fits channels every_is_channels every block_of each summed_by clipped
returns = refl

-- Refuses: a sum that is not clipped, that wraps, or that is clipped at -(2^23 - 1) or 2^23.
clips :
    (sum_output (highest ∷ pos 1 ∷ []) (1 ∷ 1 ∷ []) 1 (pos 7 ∷ []) 1 ≡ highest ∷ [])
    × (sum_output (lowest ∷ lowest ∷ []) (1 ∷ 1 ∷ []) 1 (pos 7 ∷ []) 1 ≡ lowest ∷ [])
    × (sum_output [] [] 2 (pos 7 ∷ pos 7 ∷ []) 1 ≡ pos 0 ∷ pos 0 ∷ [])
unfolding sum_fits channels every_is_channels every block_of each summed_by clipped
clips = (refl, refl, refl)

-- 16 before 21; a sample that no output reads counts
sum_tested :
    (sum_refusal (pos 8388608 ∷ pos 0 ∷ pos 0 ∷ []) (3 ∷ []) 1 1 1 ≡ Some LentBlock) × (sum_refusal (pos 0 ∷ pos 8388608 ∷ []) (2 ∷ []) 1 1 1 ≡ Some OutOfRange)
unfolding sum_fits channels every_is_channels every
sum_tested = (refl, refl)
