-- The sum of a bus as the code works it out where every port has as many channels as the bus: over numbers without a sign, each sample raised by 2^23. Definitions only.
use Rattle.std.specs.Prelude.{ℕ, zero, suc, ◌+◌, ◌-◌, ◌*◌, ◌%◌, ◌≤◌, ◌≡◌, Bool, ◌&&◌, cond, List, T, ltb, ℤ, pos, negsuc, ◌-ℤ◌, length, get_or, drop}
use Rattle.bus.specs.Block.{each, block_of, is_channels}
use Rattle.bus.specs.Sum.{most_inputs, channels, every_is_channels}
use Rattle.whole_bus.specs.Sample.{is_sample, clipped}
use Rattle.whole_bus.specs.Block.{every, sum_of}

-- how far a number lies above the lowest sample, modulo 2^32
unfoldable pub above_lowest : ℤ → ℕ
above_lowest (pos a) = (a + 8388608) % 4294967296
above_lowest (negsuc a) = (4303355904 - suc a) % 4294967296

-- a block added to sums, place by place, and what is told of its samples
pub record Added (a : List ℤ) (before after : List ℕ) (bits : ℕ) : Type 0 where
  pub sums : after ≡ each (length before) (λ i. (get_or before i 0 + above_lowest (get_or a i (pos 0))) % 4294967296)
  pub tells : ltb bits 16777216 ≡ every is_sample a

-- two of them
pub record AddedTwo (a b : List ℤ) (before after : List ℕ) (bits : ℕ) : Type 0 where
  pub sums : after ≡ each (length before) (λ i. (get_or before i 0 + above_lowest (get_or a i (pos 0)) + above_lowest (get_or b i (pos 0))) % 4294967296)
  pub tells : ltb bits 16777216 ≡ every is_sample a && every is_sample b

-- sample j of n blocks of so many samples, one after the other, added up
unfoldable pub raised_sum : ℕ → ℕ → List ℤ → ℕ → ℕ
unfolding above_lowest
raised_sum zero size xs j = 0
raised_sum (suc n) size xs j = above_lowest (get_or xs j (pos 0)) + raised_sum n size (drop size xs) j

pub record AddedAll (inputs : List ℤ) (n : ℕ) (before after : List ℕ) (bits : ℕ) : Type 0 where
  pub sums : after ≡ each (length before) (λ j. raised_sum n (length before) inputs j % 4294967296)
  pub tells : ltb bits 16777216 ≡ every is_sample inputs

-- n blocks of as many samples as the output has, one after the other: the output is the clipped sums, or if any is no sample, as it was
pub record SummedBlocks (inputs : List ℤ) (n : ℕ) (before after : List ℤ) (r : Bool) : Type 0 where
  pub tells : r ≡ every is_sample inputs
  pub leaves : after ≡ cond r (each (length before) (λ j. clipped (pos (raised_sum n (length before) inputs j) -ℤ pos (n * 8388608)))) before

-- what the sizes have to be, as `sum_fits` tests them
pub record Fitting (inputs : List ℤ) (counts : List ℕ) (size : ℕ) (out : List ℤ) (outs : ℕ) : Type 0 where
  pub counted : T (every_is_channels counts)
  pub whole : length inputs ≡ channels counts * size
  pub few : length counts ≤ most_inputs
  pub one_or_two : T (is_channels outs)
  pub long : length out ≡ outs * size

-- the output is the bus's sum, or if any is no sample, as it was
pub record Summed (inputs : List ℤ) (counts : List ℕ) (size outs : ℕ) (before after : List ℤ) (r : Bool) : Type 0 where
  pub tells : r ≡ every is_sample inputs
  pub leaves : after ≡ cond r (block_of outs size (sum_of size inputs counts)) before
