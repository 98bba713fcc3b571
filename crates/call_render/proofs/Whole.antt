-- The whole render from its parts.
use Prim.Native.Nat.{ℕ, ◌+◌, ◌≤◌}
use mathlib.Core.Path.{◌≡◌, refl, sym, ap, ap₂, subst, ◌∙◌}
use mathlib.Core.List.{List, []}
use Rattle.std.specs.Prelude.{Option, None, Result, Err, Ok}
use mathlib.Core.Bool.{Bool, true, false, false≢true}
use lib.Dec.{ltb}
use lib.ListN.{length}
use borrow.Author.Tests.{le-ltb}
use Rattle.node.specs.declared.refusal.Refusal.{Refusal}
use Rattle.node.specs.declared.refusal.Refusal.TheVariants.{ClockEnd, ShortBuffer}
use Rattle.scheduler.specs.Queue.{taken_before}
use Rattle.store.specs.declared.answer.Rendered.{Rendered}
use Rattle.model.specs.SharedState.{SharedState, sounding}
use Rattle.model.specs.Model.{Model}
use Rattle.model.specs.Render.{Heard, heard, answer_after, prepare_outcome, prepare_shared, ready_shared, any_free, apply_events, deadline, prepared_if, is_sounding, moved_if, outcomes, render_refusal}
use Rattle.lists.specs.Written.{written}
use Rattle.graph.specs.Refuse.{when}
use Rattle.model.specs.Render as model
use Rattle.model.specs.Call.{Step, step, render_step, rendered}
use Rattle.model.specs.Call as call
use Rattle.model.specs.Numbers.{number_in}
use Rattle.memory.specs.declared.state.CallResult.{CallResult}
use Rattle.memory.specs.View.{Memory, model_of, shared_of}
use Rattle.memory.specs.Called.{Called, Kept, keeps}
use Rattle.call_render.specs.Applying.{resting, Handed}
use Rattle.call_render.specs.Blocks.{heard_in, readied, block_to}
use Rattle.call_render.proofs.Ends.{all_ends, block_is}

-- ---- 15, and then 17
refused_is : (m : Model) (out : List ℕ) (o : Option Refusal) → render_refusal m.shared (length out) ≡ o → render_step o out m ≡ step (call.render out) m
refused_is m out o e = ap (λ x. render_step x out m) (sym e)

module _ (m : Memory) (out : List ℕ) where
  abbrev end : ℕ
  end = m.state.clock + m.state.config.block

  not_ended : (o : Option Refusal) → end ≤ 18446744073709551615 → when (ltb (length out) 256) ShortBuffer None ≡ o → render_refusal (model_of m).shared (length out) ≡ o
  not_ended o fits e = ap (λ b. when b ClockEnd (when (ltb (length out) 256) ShortBuffer None)) (le-ltb 18446744073709551615 end fits) ∙ e

  taken_on : end ≤ 18446744073709551615 → 256 ≤ length out → render_step None out (model_of m) ≡ step (call.render out) (model_of m)
  taken_on fits long = refused_is (model_of m) out None (not_ended None fits (ap (λ b. when b ShortBuffer None) (le-ltb (length out) 256 long)))

-- ---- no other refusal
abbrev kept : Rendered → Bool
kept a = keeps (number_in (rendered a 0 []))

heard_kept : (b : Bool) → kept (heard b) ≡ false
heard_kept true = refl
heard_kept false = refl

after_kept : (k : Result (Unit {0}) Refusal) (d : SharedState) → kept (answer_after k d) ≡ false
after_kept (Ok tt) d = heard_kept (sounding d)
after_kept (Err y) d = refl

readied_kept : (b : Bool) (m : Model) → kept (readied b m).answer ≡ false
readied_kept true m = after_kept (prepare_outcome m.shared).answer (prepare_shared m.shared)
readied_kept false m = heard_kept (sounding m.shared)

-- ---- the memory at first, after the events, when it is ready, and at the end; the list before and after
module _ (old mid then last : Memory) (b : Bool) (ready out : CallResult Rendered) (lent list : List ℕ) (taken end : ℕ) (is-end : end ≡ old.state.clock + old.state.config.block) (fits : end ≤ 18446744073709551615)
    (long : 256 ≤ length lent)
    (frees : b ≡ any_free (taken_before end (shared_of old).events))
    (handed-on : Handed end (model_of old) (model_of mid) lent list taken)
    (readying : heard_in ready then ≡ readied b (model_of mid))
    (block : heard_in out last ≡ block_to end ready.answer (model_of then)) where
  ends : end ≡ deadline (model_of mid).shared
  ends = is-end ∙ sym (ap (λ (k : Model). deadline k.shared) handed-on.is ∙ all_ends (taken_before end (shared_of old).events) _)

  over : heard_in out last ≡ block_to end (readied b (model_of mid)).answer (readied b (model_of mid)).model
  over = block ∙ ap (λ (h : Heard). block_to end h.answer h.model) readying

  whole : heard_in out last ≡ model.render (model_of old)
  whole =
      over
      ∙ block_is b (model_of mid) end ends
      ∙ ap (λ x. prepared_if x (model_of mid)) frees
      ∙ ap (prepared_if (any_free (taken_before end (shared_of old).events))) handed-on.is
      ∙ ap (λ x. prepared_if (any_free (taken_before x (shared_of old).events)) (apply_events (taken_before x (shared_of old).events) (resting x (model_of old)))) is-end

  -- what is heard, with the count of the events and the list
  abbrev handed : Heard → ℕ → List ℕ → Step
  handed h n l = record { answer = rendered h.answer n l; model = h.model }

  abbrev handed_by : ℕ → Step
  handed_by x = handed (model.render (model_of old)) (length (taken_before x (shared_of old).events)) (written (outcomes (taken_before x (shared_of old).events) (resting x (model_of old))) lent)

  pub render_done : Called (call.render lent) old (rendered out.answer taken list) last
  render_done =
      ap (λ h. handed h taken list) whole
      ∙ ap₂ (handed (model.render (model_of old))) handed-on.many handed-on.told
      ∙ ap handed_by is-end
      ∙ taken_on old lent (subst (λ x. x ≤ 18446744073709551615) is-end fits) long

  pub render_kept : Kept (rendered out.answer taken list) old last
  render_kept e = absurd (false≢true (sym (ap (λ (h : Heard). kept h.answer) over ∙ readied_kept b (model_of mid)) ∙ e))
