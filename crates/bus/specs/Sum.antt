-- The sum of a bus (SPEC 15.2). Definitions only.
use Rattle.std.specs.Prelude.{ℕ, ◌+◌, ◌*◌, ◌%◌, Bool, true, cond, ◌&&◌, List, [], ◌∷◌, length, drop, ◌==◌, nat_le, Float}
use Rattle.std.specs.Float.{nan, binary32}
use Rattle.std.specs.Float.Ieee.{add}
use Rattle.node.specs.Refusal.{Said, refused, gives, number_of}
use Rattle.node.specs.declared.refusal.Refusal.TheVariants.{LentBlock}
use Rattle.bus.specs.Block.{block_of, sample_at, is_channels, holds}
use Rattle.bus.specs.Fade.{silence}

-- The inputs' blocks stand one after the other in one run of samples, with a run of their channel counts.

abbrev pub most_inputs : ℕ
most_inputs = 64

-- how many channels they have together
unfoldable pub channels : List ℕ → ℕ
channels [] = 0
channels (n ∷ ns) = n + channels ns

unfoldable pub every_is_channels : List ℕ → Bool
every_is_channels [] = true
every_is_channels (n ∷ ns) = is_channels n && every_is_channels ns

-- a plus sample i of channel c of each input, in order, in any sort of number; an input of n channels gives its channel c modulo n
unfoldable pub summed_by : {A : Type 0} → (A → A → A) → A → A → ℕ → ℕ → ℕ → List A → List ℕ → A
summed_by plus past a size c i xs [] = a
summed_by plus past a size c i xs (n ∷ ns) = summed_by plus past (plus a (sample_at past size xs (c % n) i)) size c i (drop (n * size) xs) ns

-- of floats, where each addition is rounded
abbrev pub summed : Float → ℕ → ℕ → ℕ → List Float → List ℕ → Float
summed = summed_by (add binary32) nan

-- 16, `LentBlock`, unless there are at most 64 inputs of 1 or 2 channels each, and their blocks and the output are
-- channels × block; inputs and out are how many samples there are of each
unfoldable pub sum_fits : ℕ → List ℕ → ℕ → ℕ → ℕ → Bool
unfolding channels every_is_channels
sum_fits inputs counts size out outs = nat_le (length counts) most_inputs && (every_is_channels counts && (inputs == channels counts * size && holds out outs size))

abbrev pub sum_answer : List Float → List ℕ → ℕ → List Float → ℕ → Said Unit
sum_answer inputs counts size out outs = cond (sum_fits (length inputs) counts size (length out) outs) (gives tt) (refused (number_of LentBlock))

-- The output as it is left: whole, or where the call is refused, as it was. Each sample is summed from +0, input by
-- input, and each addition rounded.
abbrev pub sum_output : List Float → List ℕ → ℕ → List Float → ℕ → List Float
sum_output inputs counts size out outs =
    cond (sum_fits (length inputs) counts size (length out) outs) (block_of outs size (λ c i. summed silence size c i inputs counts)) out
