-- Fade output and bus sum of a store whose config is c, in floats and in whole numbers (SPEC 15.1, 15.2, 15.3); with
-- the fade table, at its rate (SPEC 10.4).
use Prim.Native.Nat.{ℕ}
use mathlib.Core.Path.{◌≡◌, ap, ◌∙◌}
use mathlib.Core.List.{List}
use mathlib.Core.Bool.{Bool, true, ◌&&◌, cond}
use lib.Ieee.{Float}
use lib.ListN.{length}
use Rattle.bus.specs.Block as samples
use Rattle.bus.specs.Fade.{fade_length, fade_output}
use Rattle.fade_table.specs.Gain.{gains}
use Rattle.store.specs.declared.config.Config.{Config}
use Rattle.model.specs.Refuse.{table_rate}
use Rattle.model.specs.Block.{fade_block}
use Rattle.model.specs.Model.{Model}
use Rattle.model.specs.Call as call
use Rattle.model.proofs.TableScenes.{gains_enough}
use Rattle.model.proofs.WholeNumbers.{whole_from_table}
use Rattle.ledger.specs.Claim.{Blocks}

module _ (c : Config) (input : List Float) (ins : ℕ) (lent : List Float) (at : ℕ) (out : List Float) (outs : ℕ) where
  from_table : c.table ≡ true → c.rate ≡ table_rate
      → call.fade_answer c input ins lent at out outs
      ≡ call.block_answer (samples.holds (length input) ins c.block && samples.holds (length out) outs c.block) (fade_output input ins gains 240 at c.block out outs)
  from_table chosen rate =
      ap (λ (b : Bool). call.block_answer b (fade_block c input ins lent at out outs)) (gains_enough c chosen rate input ins lent out outs)
      ∙ ap (λ (used : List Float). answer used (fade_length c.rate)) (ap (λ (b : Bool). cond b gains lent) chosen)
      ∙ ap (λ (n : ℕ). answer gains (fade_length n)) rate
    where
      answer : List Float → ℕ → call.Answer
      answer used len =
          call.block_answer (samples.holds (length input) ins c.block && samples.holds (length out) outs c.block) (fade_output input ins used len at c.block out outs)

pub blocks : (c : Config) (s : Model) → s.shared.config ≡ c → (c.table ≡ true → c.rate ≡ table_rate) → Blocks c s
blocks c s is rate =
    record {
      fade = λ input ins lent at out outs. ap (λ (d : Config). call.fade_answer d input ins lent at out outs) is;
      sum = λ inputs counts out outs. ap (λ (d : Config). call.sum_answer d inputs counts out outs) is;
      table = λ chosen input ins lent at out outs. ap (λ (d : Config). call.fade_answer d input ins lent at out outs) is ∙ from_table c input ins lent at out outs chosen (rate chosen);
      whole_fade = λ input ins lent at out outs. ap (λ (d : Config). call.whole_fade_answer d input ins lent at out outs) is;
      whole_sum = λ inputs counts out outs. ap (λ (d : Config). call.whole_sum_answer d inputs counts out outs) is;
      whole_table = λ chosen input ins lent at out outs. ap (λ (d : Config). call.whole_fade_answer d input ins lent at out outs) is ∙ whole_from_table c chosen input ins at out outs (rate chosen) lent;
    }
