-- What making fixed decides of fade output and bus sum, in floats and in whole numbers (SPEC 15): the samples of a
-- block, the fade length, and whose gains count. The arithmetic is that of crates `bus` and `whole_bus`.
use Rattle.std.specs.Prelude.{ℕ, List, Bool, cond, ℤ, length, Float, Option}
use Rattle.bus.specs.Fade.{fade_length, fade_fits, fade_output}
use Rattle.bus.specs.Sum.{sum_fits, sum_output}
use Rattle.node.specs.declared.refusal.Refusal.{Refusal}
use Rattle.fade_table.specs.Table.{entries}
use Rattle.fade_table.specs.Gain.{gains}
use Rattle.whole_bus.specs.Block as whole
use Rattle.store.specs.declared.config.Config.{Config}

-- the gains that count: the table's where it was chosen at making, whatever is lent, and else those lent (SPEC 10.4)
abbrev pub gains_of : Config → List Float → List Float
gains_of c lent = cond c.table gains lent

-- whether a fade's input, gains and output are of the sizes asked for; else 16
abbrev pub fades : Config → List Float → ℕ → List Float → List Float → ℕ → Bool
fades c input ins lent out outs = fade_fits (length input) ins (length (gains_of c lent)) (fade_length c.rate) c.block (length out) outs

-- the output as a fade at this position leaves it
abbrev pub fade_block : Config → List Float → ℕ → List Float → ℕ → List Float → ℕ → List Float
fade_block c input ins lent position out outs = fade_output input ins (gains_of c lent) (fade_length c.rate) position c.block out outs

-- the same of a bus: its inputs' blocks one after the other, and the channel count of each
abbrev pub sums : Config → List Float → List ℕ → List Float → ℕ → Bool
sums c inputs counts out outs = sum_fits (length inputs) counts c.block (length out) outs

abbrev pub sum_block : Config → List Float → List ℕ → List Float → ℕ → List Float
sum_block c inputs counts out outs = sum_output inputs counts c.block out outs

-- ---- in whole numbers

-- in whole numbers the table's gains are its entries (SPEC 10.4, 15.3)
abbrev pub whole_gains_of : Config → List ℕ → List ℕ
whole_gains_of c lent = cond c.table entries lent

-- 16, then 21: where the table is chosen, lent gains are looked at by neither (SPEC 15.3)
abbrev pub whole_fade_refusal : Config → List ℤ → ℕ → List ℕ → List ℤ → ℕ → Option Refusal
whole_fade_refusal c input ins lent out outs = whole.fade_refusal input ins (whole_gains_of c lent) (fade_length c.rate) c.block (length out) outs

abbrev pub whole_fade_block : Config → List ℤ → ℕ → List ℕ → ℕ → List ℤ → ℕ → List ℤ
whole_fade_block c input ins lent position out outs = whole.fade_output input ins (whole_gains_of c lent) (fade_length c.rate) position c.block out outs

abbrev pub whole_sum_refusal : Config → List ℤ → List ℕ → List ℤ → ℕ → Option Refusal
whole_sum_refusal c inputs counts out outs = whole.sum_refusal inputs counts c.block (length out) outs

abbrev pub whole_sum_block : Config → List ℤ → List ℕ → List ℤ → ℕ → List ℤ
whole_sum_block c inputs counts out outs = whole.sum_output inputs counts c.block out outs
