-- The fade table, chosen at making (SPEC 3): 20, and lent gains that are ignored, by 16 too (SPEC 10.4, 15.1, 15.2).
--     lent_ignored    with the table, whatever gains are lent, fade output answers the same
--     gains_enough    with the table, at 48,000 Hz, 16 is answered for the two blocks alone
use Prim.Native.Nat.{ℕ}
use mathlib.Core.Path.{◌≡◌, refl, sym, ap, ◌∙◌}
use mathlib.Core.List.{List, [], ◌∷◌}
use Rattle.std.specs.Prelude.{Option, None, Some, option_map}
use mathlib.Core.Bool.{Bool, true, false, cond, ◌&&◌, and-true}
use lib.IntN.{pos, negsuc}
use lib.ListN.{length}
use lib.Ieee.{Float, nan, fin, mul, div, of_int, round, odd, span, size, climb, units}
use Rattle.node.specs.Refusal.{number_of}
use Rattle.node.specs.declared.refusal.Refusal.TheVariants.{LentBlock}
use Rattle.bus.specs.Rate.{rate_of}
use Rattle.bus.specs.Block.{each, block_of, holds}
use Rattle.bus.specs.Fade.{fade_length, fade_fits, fade_output}
use Rattle.fade_table.specs.Table.{entries}
use Rattle.fade_table.specs.Gain.{gains, gain_of}
use Rattle.fade_table.proofs.Gains.{length_gains}
use Rattle.voice.specs.declared.policy.BudgetScope.TheVariants.{Global}
use Rattle.voice.specs.declared.policy.StealPolicy.TheVariants.{Oldest}
use Rattle.store.specs.declared.config.Config.{Config}
use Rattle.model.specs.Refuse.{table_rate}
use Rattle.model.specs.Make.{refusal_of}
use Rattle.model.specs.Block.{gains_of, fades}
use Rattle.model.specs.Call.{Answer, fade_answer, block_answer, filled}
use Rattle.model.specs.Call as call

-- ---- 20 at another rate, after 3
abbrev making : Float → ℕ → Option ℕ → Bool → Option ℕ
making rate block budget table = option_map number_of (refusal_of (record { rate = rate; block = block; budget = budget; policy = Oldest; scope = Global; table = table }))

-- 48,000, 44,100 and 47,999
abbrev rate48 : Float
rate48 = fin false 375 (pos 7)

abbrev rate44 : Float
rate44 = fin false 11025 (pos 2)

abbrev below48 : Float
below48 = fin false 47999 (pos 0)

-- Refuses: 20 before 1, 2 or 3; the table at 44,100 or 47,999 Hz; 20 where the table is not chosen, or at 48,000 Hz.
makings :
    (making nan 0 (Some 65) true ≡ Some 1) × (making rate44 0 (Some 65) true ≡ Some 2) × (making rate44 16 (Some 65) true ≡ Some 3)
    × (making rate44 16 None true ≡ Some 20) × (making below48 16 None true ≡ Some 20) × (making rate48 16 None true ≡ None)
    × (making rate44 16 None false ≡ None) × (making rate48 16 None false ≡ None)
unfolding rate_of
makings = (refl, refl, refl, refl, refl, refl, refl, refl)

-- ---- a store of 48,000 Hz with blocks of two samples
abbrev at48 : Bool → Config
at48 table = record { rate = 48000; block = 2; budget = None; policy = Oldest; scope = Global; table = table }

abbrev one : Float
one = fin false 1 (pos 0)

-- 8498411 / 2 ^ 24, entry 119, and 1 / 2, entry 120
abbrev entry119 : Float
entry119 = fin false 8498411 (negsuc 23)

abbrev half : Float
half = fin false 1 (negsuc 0)

-- With the table no gain need be lent, and those that are do not count; without it there are too few. Refuses: lent gains counted although the table is chosen; lent
-- gains used although it is; the table used although it is not chosen.
with_table :
    (fade_answer (at48 true) (one ∷ one ∷ []) 1 [] 119 (nan ∷ nan ∷ []) 1 ≡ filled (entry119 ∷ half ∷ []))
    × (fade_answer (at48 true) (one ∷ one ∷ []) 1 (nan ∷ nan ∷ nan ∷ []) 119 (nan ∷ nan ∷ []) 1 ≡ filled (entry119 ∷ half ∷ []))
    × (fade_answer (at48 false) (one ∷ one ∷ []) 1 (one ∷ one ∷ one ∷ []) 119 (nan ∷ nan ∷ []) 1 ≡ call.refused LentBlock)
unfolding gains gain_of entries each block_of mul div of_int round odd span size climb units
with_table = (refl, refl, refl)

-- 16 is given for the blocks as ever. Refuses: 16 forgotten where the table is chosen.
blocks_count : fade_answer (at48 true) (one ∷ []) 1 [] 0 (nan ∷ nan ∷ []) 1 ≡ call.refused LentBlock
unfolding gains
blocks_count = refl

-- ---- the laws
table_gains : (c : Config) (lent : List Float) → c.table ≡ true → gains_of c lent ≡ gains
table_gains c lent chosen = ap (λ (b : Bool). cond b gains lent) chosen

pub lent_ignored : (c : Config) → c.table ≡ true → (input : List Float) (ins : ℕ) (lent other : List Float) (position : ℕ) (out : List Float) (outs : ℕ)
    → fade_answer c input ins lent position out outs ≡ fade_answer c input ins other position out outs
lent_ignored c chosen input ins lent other position out outs = ap answer (table_gains c lent chosen) ∙ sym (ap answer (table_gains c other chosen))
  where
    answer : List Float → Answer
    answer used =
        block_answer (fade_fits (length input) ins (length used) (fade_length c.rate) c.block (length out) outs)
        (fade_output input ins used (fade_length c.rate) position c.block out outs)

pub gains_enough : (c : Config) → c.table ≡ true → c.rate ≡ table_rate → (input : List Float) (ins : ℕ) (lent out : List Float) (outs : ℕ)
    → fades c input ins lent out outs ≡ (holds (length input) ins c.block && holds (length out) outs c.block)
gains_enough c chosen rate input ins lent out outs =
    ap (λ (n : ℕ). fits (fade_length c.rate) n) (ap length (table_gains c lent chosen) ∙ length_gains)
    ∙ ap (λ (r : ℕ). fits (fade_length r) 241) rate
    ∙ ap (λ (b : Bool). holds (length input) ins c.block && b) (and-true (holds (length out) outs c.block))
  where
    fits : ℕ → ℕ → Bool
    fits len n = fade_fits (length input) ins n len c.block (length out) outs
