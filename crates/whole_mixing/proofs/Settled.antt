-- What a block function of `whole_bus` answers and leaves, as the model says it.
use Prim.Native.Nat.{ℕ}
use native.Mathlib.Omega.{arith}
use mathlib.Core.Path.{◌≡◌, refl, ap, ◌∙◌}
use mathlib.Core.List.{List}
use Rattle.std.specs.Prelude.{Option, None, Some, Result, Err}
use lib.IntN.{ℤ}
use lib.ListN.{length}
use Rattle.node.specs.declared.refusal.Refusal.{Refusal}
use Rattle.bus.specs.Fade.{fade_length}
use Rattle.whole_bus.specs.Block.{answer_of, left_by, fade_refusal, fade_output}
use Rattle.store.specs.declared.config.Config.{Config}
use Rattle.model.specs.Block.{whole_gains_of}
use Rattle.model.specs.Call.{whole_answer, whole_fade_answer}
use Rattle.model.specs.Call as call
use Rattle.whole_mixing.specs.Filled.{filled_of}

abbrev Left : Result (Unit {0}) Refusal → List ℤ → List ℤ → Type 0
Left w before after = (x : Refusal) → w ≡ Err x → after ≡ before

-- by the refusal r that is given
by_refusal : (r : Option Refusal) (before after new : List ℤ) → after ≡ left_by r new before
    → (filled_of (answer_of r) after ≡ whole_answer r (left_by r new before)) × Left (answer_of r) before after
by_refusal None before after new l = (ap call.filled_whole l, λ x h. let z : ◌≡◌ {A = ℕ} 0 1 = cc in absurd (omega arith))
by_refusal (Some x) before after new l = (refl, λ y h. l)

pub settled : (r : Option Refusal) (w : Result (Unit {0}) Refusal) (before after new : List ℤ) → w ≡ answer_of r → after ≡ left_by r new before
    → (filled_of w after ≡ whole_answer r (left_by r new before)) × Left w before after
settled r w before after new e l =
    let s = by_refusal r before after new l in
    (ap (λ (v : Result (Unit {0}) Refusal). filled_of v after) e ∙ s.0, λ x h. s.1 x (cc))

pub fade_settled : (c : Config) (input : List ℤ) (ins : ℕ) (lent used : List ℕ) (len position : ℕ) (out : List ℤ) (outs : ℕ) (w : Result (Unit {0}) Refusal) (after : List ℤ)
    → len ≡ fade_length c.rate → used ≡ whole_gains_of c lent
    → w ≡ answer_of (fade_refusal input ins used len c.block (length out) outs) → after ≡ fade_output input ins used len position c.block out outs
    → (filled_of w after ≡ whole_fade_answer c input ins lent position out outs) × Left w out after
fade_settled c input ins lent used len position out outs w after long taken told leaves =
    let s = settled (fade_refusal input ins used len c.block (length out) outs) w out after _ told leaves in
    (s.0 ∙ ap (λ (n : ℕ). answer n used) long ∙ ap (answer (fade_length c.rate)) taken, s.1)
  where
    answer : ℕ → List ℕ → call.Answer
    answer n gains = whole_answer (fade_refusal input ins gains n c.block (length out) outs) (fade_output input ins gains n position c.block out outs)
