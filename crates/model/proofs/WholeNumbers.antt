-- Fade output and bus sum in whole numbers, as questions of a store (SPEC 15.3): 16, then 21, and lent gains that are
-- ignored where the table is chosen.
--     whole_lent_ignored   with the table, whatever gains are lent, the answer is the same
--     whole_from_table     with the table, at 48,000 Hz, 16 is answered for the two blocks alone, 21 for the input alone, and the gains are the entries
use Prim.Native.Nat.{ℕ}
use mathlib.Core.Path.{◌≡◌, refl, sym, ap, ◌∙◌}
use mathlib.Core.List.{List, [], ◌∷◌}
use Rattle.std.specs.Prelude.{Option, None, Some}
use mathlib.Core.Bool.{Bool, true, false, cond, ◌&&◌, and-true}
use lib.IntN.{ℤ, pos, negsuc}
use lib.ListN.{length}
use Rattle.node.specs.declared.refusal.Refusal.{Refusal}
use Rattle.node.specs.declared.refusal.Refusal.TheVariants.{LentBlock, OutOfRange}
use Rattle.bus.specs.Block.{each, block_of, holds}
use Rattle.bus.specs.Fade.{fade_length, fade_fits}
use Rattle.bus.specs.Sum.{channels, every_is_channels, summed_by, sum_fits}
use Rattle.fade_table.specs.Table.{entries}
use Rattle.whole_bus.specs.Sample.{is_sample, is_gain, faded_sample, clipped}
use Rattle.whole_bus.specs.Block.{every, refusal_of, left_by, faded_of, fade_refusal}
use Rattle.voice.specs.declared.policy.BudgetScope.TheVariants.{Global}
use Rattle.voice.specs.declared.policy.StealPolicy.TheVariants.{Oldest}
use Rattle.store.specs.declared.config.Config.{Config}
use Rattle.model.specs.Refuse.{table_rate}
use Rattle.model.specs.Block.{whole_gains_of}
use Rattle.model.specs.Call.{Answer, whole_answer, whole_fade_answer, whole_sum_answer, filled_whole}
use Rattle.model.specs.Call as call

-- ---- a store of 48,000 Hz with blocks of two samples
abbrev at48 : Bool → Config
at48 table = record { rate = 48000; block = 2; budget = None; policy = Oldest; scope = Global; table = table }

-- -2^23, 2^23 - 1, and the numbers next to them
abbrev low : ℤ
low = negsuc 8388607

abbrev high : ℤ
high = pos 8388607

abbrev too_low : ℤ
too_low = negsuc 8388608

abbrev too_high : ℤ
too_high = pos 8388608

-- With the table no gain need be lent, and those that are do not count, out of range though they are: from position 119 the gains are entries 119 and 120. At
-- position 0 the gain is full, and -2^23 stays. Without the table there are too few gains. Refuses: lent gains counted or ranged although the table is chosen; gains of 2^23.
with_table :
    (whole_fade_answer (at48 true) (high ∷ low ∷ []) 1 [] 119 (too_low ∷ too_low ∷ []) 1 ≡ filled_whole (pos 4249205 ∷ negsuc 4194303 ∷ []))
    × (whole_fade_answer (at48 true) (low ∷ low ∷ []) 1 (99999999 ∷ []) 0 (too_low ∷ too_low ∷ []) 1 ≡ filled_whole (low ∷ negsuc 8388247 ∷ []))
    × (whole_fade_answer (at48 false) (high ∷ low ∷ []) 1 (1 ∷ []) 119 (pos 0 ∷ pos 0 ∷ []) 1 ≡ call.refused LentBlock)
unfolding entries each block_of every faded_sample
with_table = (refl, refl, refl)

-- 16 before 21, 21 for a sample on either side of the range, and no 21 for what the output held. Refuses: 21 before 16; a range from -(2^23 - 1), or to 2^23.
ranges :
    (whole_fade_answer (at48 true) (too_high ∷ []) 1 [] 0 (pos 0 ∷ pos 0 ∷ []) 1 ≡ call.refused LentBlock)
    × (whole_fade_answer (at48 true) (pos 0 ∷ too_high ∷ []) 1 [] 0 (pos 0 ∷ pos 0 ∷ []) 1 ≡ call.refused OutOfRange)
    × (whole_sum_answer (at48 false) (too_low ∷ pos 0 ∷ []) (1 ∷ []) (pos 0 ∷ pos 0 ∷ []) 1 ≡ call.refused OutOfRange)
    × (whole_sum_answer (at48 false) (low ∷ high ∷ []) (1 ∷ []) (too_high ∷ too_low ∷ []) 1 ≡ filled_whole (low ∷ high ∷ []))
unfolding entries each block_of every faded_sample clipped sum_fits channels every_is_channels summed_by
ranges = (refl, refl, refl, refl)

-- ---- the laws
table_entries : (c : Config) (lent : List ℕ) → c.table ≡ true → whole_gains_of c lent ≡ entries
table_entries c lent chosen = ap (λ (b : Bool). cond b entries lent) chosen

-- a refused call answers no output
answers_new : (r : Option Refusal) (new old : List ℤ) → whole_answer r (left_by r new old) ≡ whole_answer r new
answers_new None new old = refl
answers_new (Some x) new old = refl

entries_gains : (b : Bool) → b && every is_gain entries ≡ b
unfolding every entries
entries_gains true = refl
entries_gains false = refl

length_entries : length entries ≡ 241
unfolding entries
length_entries = refl

module _ (c : Config) (chosen : c.table ≡ true) (input : List ℤ) (ins : ℕ) (position : ℕ) (out : List ℤ) (outs : ℕ) where
  -- the answer by gains and a length
  abbrev answer : List ℕ → ℕ → Answer
  answer used len = whole_answer (fade_refusal input ins used len c.block (length out) outs) (block_of outs c.block (faded_of input ins used len position c.block))

  by_entries : (lent : List ℕ) → whole_fade_answer c input ins lent position out outs ≡ answer entries (fade_length c.rate)
  by_entries lent =
      answers_new (fade_refusal input ins (whole_gains_of c lent) (fade_length c.rate) c.block (length out) outs)
      (block_of outs c.block (faded_of input ins (whole_gains_of c lent) (fade_length c.rate) position c.block)) out
      ∙ ap (λ (used : List ℕ). answer used (fade_length c.rate)) (table_entries c lent chosen)

  pub whole_lent_ignored : (lent other : List ℕ) → whole_fade_answer c input ins lent position out outs ≡ whole_fade_answer c input ins other position out outs
  whole_lent_ignored lent other = by_entries lent ∙ sym (by_entries other)

  pub whole_from_table : c.rate ≡ table_rate → (lent : List ℕ)
      → whole_fade_answer c input ins lent position out outs
      ≡ whole_answer (refusal_of (holds (length input) ins c.block && holds (length out) outs c.block) (every is_sample input))
      (block_of outs c.block (faded_of input ins entries 240 position c.block))
  whole_from_table rate lent =
      by_entries lent
      ∙ ap (λ (n : ℕ). answer entries (fade_length n)) rate
      ∙ ap (λ (r : Option Refusal). whole_answer r (block_of outs c.block (faded_of input ins entries 240 position c.block))) refusal
    where
      refusal : fade_refusal input ins entries 240 c.block (length out) outs
          ≡ refusal_of (holds (length input) ins c.block && holds (length out) outs c.block) (every is_sample input)
      refusal =
          ap (λ (b : Bool). refusal_of (fits (length entries)) b) (entries_gains (every is_sample input))
          ∙ ap (λ (n : ℕ). refusal_of (fits n) (every is_sample input)) length_entries
          ∙ ap (λ (b : Bool). refusal_of b (every is_sample input)) (ap (λ (b : Bool). holds (length input) ins c.block && b) (and-true (holds (length out) outs c.block)))
        where
          fits : ℕ → Bool
          fits n = fade_fits (length input) ins n 240 c.block (length out) outs
