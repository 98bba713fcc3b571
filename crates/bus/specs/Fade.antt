-- The fade of a stolen voice: its length (SPEC 10.1), the gain that goes with each sample (SPEC 10.4), and its output
-- (SPEC 15.1). Definitions only.
use Rattle.std.specs.Prelude.{ℕ, ◌+◌, ◌/◌, ◌%◌, max, Bool, false, cond, ◌&&◌, List, length, pos, nat_le, nat_lt, slice_index_or, Float}
use Rattle.std.specs.Float.{nan, fin, binary32}
use Rattle.std.specs.Float.Ieee.{mul}
use Rattle.node.specs.Refusal.{Said, refused, gives, number_of}
use Rattle.node.specs.declared.refusal.Refusal.TheVariants.{LentBlock}
use Rattle.bus.specs.Block.{block_of, sample_at, holds}

-- L: a 200th of the rate, halves up, and 1 at the least
abbrev pub fade_length : ℕ → ℕ
fade_length rate = max 1 ((rate + 100) / 200)

-- The gain of sample i of a block: that at position + i, and 0 from L on. This rule alone says which gain goes with
-- which sample, in any sort of number; none is that sort's 0.
abbrev pub gain_at : {A : Type 0} → A → List A → ℕ → ℕ → ℕ → A
gain_at none gains len position i = cond (nat_lt (position + i) len) (slice_index_or gains (position + i) none) none

-- +0
abbrev pub silence : Float
silence = fin false 0 (pos 0)

-- sample i of a channel, faded: the sample, and the gain that goes with it, multiplied as that sort of number is
abbrev pub faded_by : {A B C : Type 0} → (A → B → C) → B → List B → ℕ → ℕ → ℕ → A → C
faded_by times none gains len position i x = times x (gain_at none gains len position i)

-- Sample i of channel c of the output: that of channel c modulo the input's channels, times its gain. past stands past
-- the input's end.
abbrev pub faded_of_by : {A B C : Type 0} → (A → B → C) → A → B → List A → ℕ → List B → ℕ → ℕ → ℕ → ℕ → ℕ → C
faded_of_by times past none input ins gains len position size c i = faded_by times none gains len position i (sample_at past size input (c % ins) i)

-- each of these samples may be multiplied by each of these gains; past and none stand past their ends
abbrev pub Multiply : {A B : Type 0} → (A → B → Type 0) → A → B → List A → List B → Type 0
Multiply may past none source gains = (i j : ℕ) → may (slice_index_or source i past) (slice_index_or gains j none)

-- both of floats, whose product is rounded once
abbrev pub faded : List Float → ℕ → ℕ → ℕ → Float → Float
faded = faded_by (mul binary32) silence

abbrev pub faded_of : List Float → ℕ → List Float → ℕ → ℕ → ℕ → ℕ → ℕ → Float
faded_of = faded_of_by (mul binary32) nan silence

-- 16, `LentBlock`, unless both blocks are channels × block with 1 or 2 channels, and there are L gains; input, gains
-- and out are how many there are of each
abbrev pub fade_fits : ℕ → ℕ → ℕ → ℕ → ℕ → ℕ → ℕ → Bool
fade_fits input ins gains len size out outs = holds input ins size && (holds out outs size && nat_le len gains)

abbrev pub fade_answer : List Float → ℕ → List Float → ℕ → ℕ → List Float → ℕ → Said Unit
fade_answer input ins gains len size out outs = cond (fade_fits (length input) ins (length gains) len size (length out) outs) (gives tt) (refused (number_of LentBlock))

-- the output as it is left: whole, or where the call is refused, as it was
abbrev pub fade_output : List Float → ℕ → List Float → ℕ → ℕ → ℕ → List Float → ℕ → List Float
fade_output input ins gains len position size out outs =
    cond (fade_fits (length input) ins (length gains) len size (length out) outs) (block_of outs size (faded_of input ins gains len position size)) out
