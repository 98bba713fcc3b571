-- What a reading call stores in the lent cells. A flag is 1 or 0 (`some_flag`, state_words/specs/State). Where there is nothing to tell, a
-- cell holds what it held: `unwrap_or` of std, and here where the cell holds a part of the value.
use Rattle.std.specs.Option.{unwrap_or}
use Rattle.voice.specs.declared.steals.StealRecord.{StealRecord}
use Rattle.node.specs.declared.record.NodeId.{NodeId}
use Rattle.std.specs.Prelude.{ℕ, ◌≡◌, List, set, Float, Option, None, Some}
use Rattle.state_words.specs.State.{flag_of}
use Rattle.busiest.specs.Stretch as stretch

-- a lent record, as a table of one row
abbrev pub row_cell : {A : Type 0} → Option A → List A → List A
row_cell None l = l
row_cell (Some x) l = set l 0 x

abbrev pub source_cell : Option NodeId → ℕ → ℕ
source_cell (Some n) old = n.0
source_cell None old = old

-- ---- a steal record
abbrev pub steal_sample : Option StealRecord → ℕ → ℕ
steal_sample None old = old
steal_sample (Some r) old = r.sample

abbrev pub steal_known : Option StealRecord → ℕ → ℕ
steal_known None old = old
steal_known (Some r) old = flag_of r.known

abbrev pub steal_level : Option StealRecord → Float → Float
steal_level None old = old
steal_level (Some r) old = r.level

abbrev pub steal_cut : Option StealRecord → ℕ → ℕ
steal_cut None old = old
steal_cut (Some r) old = flag_of r.cut

-- ---- the busiest stretch: 22, 23, or how many records and the sample of the first of them
abbrev pub stretch_code : stretch.Answer → ℕ
stretch_code (stretch.refused n) = n
stretch_code (stretch.gives n x) = 0

abbrev pub stretch_count : stretch.Answer → ℕ → ℕ
stretch_count (stretch.refused n) old = old
stretch_count (stretch.gives n x) old = n

abbrev pub stretch_sample : stretch.Answer → ℕ → ℕ
stretch_sample (stretch.refused n) old = old
stretch_sample (stretch.gives n x) old = unwrap_or x old

pub record StretchCells (a : stretch.Answer) (k : ℕ) (count newCount sample newSample : ℕ) : Type 0 where
  pub number : k ≡ stretch_code a
  pub many : newCount ≡ stretch_count a count
  pub first : newSample ≡ stretch_sample a sample
