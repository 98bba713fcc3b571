-- What a call promises, from its refusal and what it leaves.
use Prim.Native.Nat.{ℕ}
use native.Mathlib.Omega.{arith}
use mathlib.Core.Path.{◌≡◌, sym, ap, ◌∙◌}
use Rattle.std.specs.Prelude.{Option, None, Some}
use mathlib.Core.Bool.{true, false}
use Rattle.node.specs.declared.refusal.Refusal.{Refusal}
use Rattle.model.specs.Call.{Call, Answer, Step, step, unless, refused}
use Rattle.memory.specs.View.{Memory, model_of}
use Rattle.memory.specs.Called.{Called}

module _ (c : Call) (m : Memory) (o : Option Refusal) (s : Step) (is : step c (model_of m) ≡ unless o (model_of m) s) where
  -- refused: the very memory
  pub refuses : (x : Refusal) → o ≡ Some x → Called c m (refused x) m
  refuses x e = sym (is ∙ ap (λ k. unless k (model_of m) s) e)

  -- done: what the model does
  pub serves : (a : Answer) (n : Memory) → o ≡ None → ◌≡◌ {A = Step} (record { answer = a; model = model_of n }) s → Called c m a n
  serves a n e f = f ∙ sym (is ∙ ap (λ k. unless k (model_of m) s) e)

-- an answer without a number says nothing of what is kept
pub kept_none : {m n : Memory} → false ≡ true → n ≡ m
kept_none e = absurd (let z : ◌≡◌ {A = ℕ} 0 1 = cc in omega arith)
