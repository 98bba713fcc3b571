-- Fade output and bus sum in whole numbers (SPEC 15.3): what they answer, and the output as they leave it. Definitions
-- only. The sizes that are asked for, the rule for which gain goes with which sample and the order of the ports are
-- those of crate `bus`.
use Rattle.std.specs.Prelude.{ℕ, Bool, true, ◌&&◌, cond, List, [], ◌∷◌, ℤ, pos, ◌+ℤ◌, length, Option, None, Some, Result, Err, Ok}
use Rattle.node.specs.declared.refusal.Refusal.{Refusal}
use Rattle.node.specs.declared.refusal.Refusal.TheVariants.{LentBlock, OutOfRange}
use Rattle.bus.specs.Block.{block_of}
use Rattle.bus.specs.Fade.{faded_by, faded_of_by, fade_fits}
use Rattle.bus.specs.Sum.{summed_by, sum_fits}
use Rattle.whole_bus.specs.Sample.{is_sample, is_gain, faded_sample, clipped}

-- whether a test holds of all
unfoldable pub every : {A : Type 0} → (A → Bool) → List A → Bool
every f [] = true
every f (x ∷ xs) = f x && every f xs

-- 16 where the sizes do not fit, and then 21 where a sample or a gain is out of its range
abbrev pub refusal_of : Bool → Bool → Option Refusal
refusal_of fits in_range = cond fits (cond in_range None (Some OutOfRange)) (Some LentBlock)

abbrev pub answer_of : Option Refusal → Result (Unit {0}) Refusal
answer_of None = Ok tt
answer_of (Some r) = Err r

-- the output as it is left: whole, or where the call is refused, as it was
abbrev pub left_by : Option Refusal → List ℤ → List ℤ → List ℤ
left_by None new old = new
left_by (Some r) new old = old

-- ---- a fade

-- sample i of a channel, faded by the gain that goes with it
abbrev pub faded_at : List ℕ → ℕ → ℕ → ℕ → ℤ → ℤ
faded_at = faded_by faded_sample 0

-- sample i of channel c of the output
abbrev pub faded_of : List ℤ → ℕ → List ℕ → ℕ → ℕ → ℕ → ℕ → ℕ → ℤ
faded_of = faded_of_by faded_sample (pos 0) 0

-- every sample of the input counts, and every gain, also past the fade's length and those that this block does not use; out is how many samples the output has
abbrev pub fade_refusal : List ℤ → ℕ → List ℕ → ℕ → ℕ → ℕ → ℕ → Option Refusal
fade_refusal input ins gains len size out outs = refusal_of (fade_fits (length input) ins (length gains) len size out outs) (every is_sample input && every is_gain gains)

abbrev pub fade_output : List ℤ → ℕ → List ℕ → ℕ → ℕ → ℕ → List ℤ → ℕ → List ℤ
fade_output input ins gains len position size out outs =
    left_by (fade_refusal input ins gains len size (length out) outs) (block_of outs size (faded_of input ins gains len position size)) out

-- ---- the sum of a bus

-- exact, from 0, port by port
abbrev pub exact_sum : ℕ → List ℤ → List ℕ → ℕ → ℕ → ℤ
exact_sum size inputs counts c i = summed_by ◌+ℤ◌ (pos 0) (pos 0) size c i inputs counts

-- clipped once, at the end
abbrev pub sum_of : ℕ → List ℤ → List ℕ → ℕ → ℕ → ℤ
sum_of size inputs counts c i = clipped (exact_sum size inputs counts c i)

abbrev pub sum_refusal : List ℤ → List ℕ → ℕ → ℕ → ℕ → Option Refusal
sum_refusal inputs counts size out outs = refusal_of (sum_fits (length inputs) counts size out outs) (every is_sample inputs)

abbrev pub sum_output : List ℤ → List ℕ → ℕ → List ℤ → ℕ → List ℤ
sum_output inputs counts size out outs = left_by (sum_refusal inputs counts size (length out) outs) (block_of outs size (sum_of size inputs counts)) out
