-- From what a call on a state promises to what its export promises on the state's words: one law for what a call leaves, one for its cells.
use Prim.Native.Nat.{ℕ}
use native.Mathlib.Omega.{arith}
use mathlib.Core.Path.{◌≡◌, refl, sym, ap, ◌∙◌}
use mathlib.Core.List.{List}
use mathlib.Core.Bool.{Bool, true, false}
use Rattle.model.specs.Call.{Call, Answer, Step, step, spawned}
use Rattle.model.specs.Numbers.{number_in}
use Rattle.memory.specs.View.{Memory, model_of}
use Rattle.memory.specs.declared.state.State.{State}
use Rattle.memory.specs.Called.{Called, Kept, keeps, answered}
use Rattle.state_words.specs.State.{state_in}
use Rattle.node.specs.declared.refusal.Refusal.{Refusal}
use Rattle.node.specs.declared.record.VoiceId.{VoiceId}
use Rattle.std.specs.Prelude.{Result, Err, Ok}
use Rattle.c_answer.specs.Exported.{code, result_code, result_kept, said_by, Exported, Tells, Settled}

pub no : {A : Type 0} → ◌≡◌ {A = Bool} false true → A
no e = absurd (let z : ◌≡◌ {A = ℕ} 0 1 = cc in omega arith)

-- `before s` and `after s` are the store with the state s and the lent tables as they stood before and after the call; d is the call
-- with its arguments as the code has read them
module _ (c d : Call) (before after : State → Memory) (w : List ℕ) (s t : State) (a : Answer)
    (is : d ≡ c)
    (read : s ≡ state_in w)
    (called : Called d (before s) a (after t)) where
  said : a ≡ said_by c (before (state_in w))
  said = ap (λ (x : Step). x.answer) called ∙ ap (λ x. said_by x (before s)) is ∙ ap (λ x. said_by c (before x)) read

  -- the cells of a call hold the value of its answer
  pub tells : {A : Type 0} (say : A → Answer) (k : ℕ) (cells : A → Type 0) (x : A) → a ≡ say x → k ≡ code a → cells x → Tells say c (before (state_in w)) k cells
  tells say k cells x saying coded held = record { value = x; answer = sym said ∙ saying; number = coded ∙ ap code saying; held = held }

  -- the words v hold the state that the call left; where it keeps everything they are the same words
  leaves : (v : List ℕ) (k : ℕ)
      → k ≡ code a
      → state_in v ≡ t
      → (keeps (number_in a) ≡ true → (v ≡ w) × (after t ≡ before s))
      → Exported c (before (state_in w)) w k (after (state_in v)) v
  leaves v k coded left same =
      record {
        answer = coded ∙ ap code said;
        model = ap (λ x. model_of (after x)) left ∙ ap (λ (x : Step). x.model) called ∙ ap (λ x. (step x (model_of (before s))).model) is ∙ ap (λ x. (step c (model_of (before x))).model) read;
        same = λ h.
            let g = same (ap (λ x. keeps (number_in x)) said ∙ h) in
            (g.0, ap after left ∙ g.1 ∙ ap before read);
      }

  -- a call that is lent the words of its state for reading
  pub unsettled : (k : ℕ) → s ≡ t → Kept a (before s) (after t) → k ≡ code a → Exported c (before (state_in w)) w k (after (state_in w)) w
  unsettled k e kept coded = leaves w k coded (sym read ∙ e) (λ h. (refl, kept h))

  -- a call whose state is settled
  pub exported : (own : (x : State) → (before x).state ≡ x) (own' : (x : State) → (after x).state ≡ x) (b : Bool) (k r : ℕ) (v : List ℕ)
      → Kept a (before s) (after t)
      → b ≡ keeps (number_in a)
      → k ≡ code a
      → Settled w t b k r v
      → Exported c (before (state_in w)) w r (after (state_in v)) v
  exported own own' b k r v kept tested coded settled = leaves v r (settled.told ∙ coded) (go b refl) (λ h. (settled.stays (tested ∙ h), kept h))
    where
      go : (x : Bool) → b ≡ x → state_in v ≡ t
      go true h = ap state_in (settled.stays h) ∙ sym read ∙ sym (own s) ∙ ap (λ (m : Memory). m.state) (sym (kept (sym tested ∙ h))) ∙ own' t
      go false h = settled.moved h

-- a call that answers by a result: its number, and whether it keeps every word
pub done_code : (a : Result (Unit {0}) Refusal) → result_code a ≡ code (answered a)
done_code (Ok tt) = refl
done_code (Err r) = refl

pub done_kept : (a : Result (Unit {0}) Refusal) → result_kept a ≡ keeps (number_in (answered a))
done_kept (Ok tt) = refl
done_kept (Err r) = refl

pub spawned_kept : (a : Result VoiceId Refusal) → result_kept a ≡ keeps (number_in (spawned a))
spawned_kept (Ok w) = refl
spawned_kept (Err r) = refl
