-- Making, of what its numbers stand for: no store is there before it, so it has a law of its own.
use Prim.Native.Nat.{ℕ}
use mathlib.Core.Path.{◌≡◌, ap, ◌∙◌}
use mathlib.Core.List.{List}
use mathlib.Core.Bool.{Bool, true, false}
use Rattle.graph.specs.Tables.{answer_of}
use Rattle.model.specs.Make.{Making, new_model, config_of, refusal_of}
use Rattle.model.specs.Numbers.{number_in}
use Rattle.memory.specs.View.{Memory, model_of}
use Rattle.memory.specs.Lent.{lent_state}
use Rattle.memory.specs.Called.{answered, keeps}
use Rattle.node.specs.declared.refusal.Refusal.{Refusal}
use Rattle.std.specs.Prelude.{Result}
use Rattle.memory.specs.declared.state.CallResult.{CallResult}
use Rattle.state_words.specs.State.{state_in}
use Rattle.c_answer.specs.Exported.{code, Settled}

pub made : (asked said : Making) (w v : List ℕ) (x : CallResult (Result (Unit {0}) Refusal)) (kept : Bool) (k r : ℕ)
    → asked ≡ said
    → x.answer ≡ answer_of (refusal_of asked)
    → ((m : Memory) → model_of (lent_state x.state m) ≡ new_model (config_of asked))
    → kept ≡ keeps (number_in (answered x.answer))
    → k ≡ code (answered x.answer)
    → Settled w x.state kept k r v
    → (r ≡ code (answered (answer_of (refusal_of said))))
    × ((keeps (number_in (answered (answer_of (refusal_of said)))) ≡ false → (m : Memory) → model_of (lent_state (state_in v) m) ≡ new_model (config_of said))
    × (keeps (number_in (answered (answer_of (refusal_of said)))) ≡ true → v ≡ w))
made asked said w v x kept k r same answer model tested coded settled =
    let told : x.answer ≡ answer_of (refusal_of said) = answer ∙ ap (λ y. answer_of (refusal_of y)) same in
    let back : kept ≡ keeps (number_in (answered (answer_of (refusal_of said)))) = tested ∙ ap (λ y. keeps (number_in (answered y))) told in (
      settled.told ∙ coded ∙ ap (λ y. code (answered y)) told,
      (
        λ h m. ap (λ y. model_of (lent_state y m)) (settled.moved (back ∙ h)) ∙ model m ∙ ap (λ y. new_model (config_of y)) same,
        λ h. settled.stays (back ∙ h),
      ),
    )
