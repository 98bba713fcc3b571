-- The refusals of a render, one by one.
use Prim.Native.Nat.{ℕ, ◌+◌, ◌≤◌, ◌<◌}
use mathlib.Core.Path.{◌≡◌, refl, sym, ap, ◌∙◌}
use mathlib.Core.List.{List}
use mathlib.Core.Bool.{Bool, true, false}
use lib.Dec.{ltb}
use lib.ListN.{length}
use borrow.Author.Tests.{ltb-true, ltb-false, lt-ltb, le-ltb}
use Rattle.std.specs.Prelude.{Option, None, Some}
use Rattle.node.specs.declared.refusal.Refusal.{Refusal}
use Rattle.node.specs.declared.refusal.Refusal.TheVariants.{ClockEnd, ShortBuffer}
use Rattle.store.specs.declared.answer.Rendered.{Rendered}
use Rattle.store.specs.declared.config.Config.{Config}
use Rattle.model.specs.Model.{Model}
use Rattle.model.specs.Render.{clock_ends, render_refusal, render, due, rested, apply_events, any_free}
use Rattle.model.specs.Call.{Answer, Step, step, render_step}
use Rattle.model.specs.Call as call
use Rattle.rules.specs.Render.{block_end, Accepted, answered, after, refusing, RenderRule}
use Rattle.rules.proofs.Still.{events_still, block_clock, not_refused}

told_alike : {a b : Rendered} {i j : ℕ} {k l : List ℕ} → call.rendered a i k ≡ call.rendered b j l → a ≡ b
told_alike h = cc

clock_short : ◌≡◌ {A = Rendered} (Rendered.Refused ClockEnd) (Rendered.Refused ShortBuffer) → ⊥
clock_short h = cc

module _ (out : List ℕ) (m : Model) where
  -- the refusal by the two tests
  pub ended : 18446744073709551615 < block_end m → render_refusal m.shared (length out) ≡ Some ClockEnd
  ended h = let e : clock_ends m.shared ≡ true = lt-ltb _ _ h in rw e

  pub short : block_end m ≤ 18446744073709551615 → length out < 256
      → render_refusal m.shared (length out) ≡ Some ShortBuffer
  short h k =
      let e : clock_ends m.shared ≡ false = le-ltb _ _ h in
      let f : ltb (length out) 256 ≡ true = lt-ltb _ _ k in rw (e, f)

  pub open_to : Accepted out m → render_refusal m.shared (length out) ≡ None
  open_to a =
      let e : clock_ends m.shared ≡ false = le-ltb _ _ a.clock in
      let f : ltb (length out) 256 ≡ false = le-ltb _ _ a.room in rw (e, f)

  pub step_is : (o : Option Refusal) → render_refusal m.shared (length out) ≡ o
      → step (call.render out) m ≡ render_step o out m
  step_is o e = ap (λ o. render_step o out m) e

  pub data Case : Type 0 where
    at_end : 18446744073709551615 < block_end m → Case
    at_short : block_end m ≤ 18446744073709551615 → length out < 256 → Case
    at_open : Accepted out m → Case

  pub which : Case
  which = go (ltb 18446744073709551615 (block_end m)) refl (ltb (length out) 256) refl
    where
      go : (a : Bool) → ltb 18446744073709551615 (block_end m) ≡ a → (b : Bool) → ltb (length out) 256 ≡ b → Case
      go true e b f = at_end (ltb-true _ _ e)
      go false e true f = at_short (ltb-false _ _ e) (ltb-true _ _ f)
      go false e false f = at_open (record { clock = ltb-false _ _ e; room = ltb-false _ _ f })

  -- what it answers, and the store after it
  pub answer_by : (o : Option Refusal) → render_refusal m.shared (length out) ≡ o
      → answered out m ≡ (render_step o out m).answer
  answer_by o e = ap (λ (s : Step). s.answer) (step_is o e)

  pub after_by : (o : Option Refusal) → render_refusal m.shared (length out) ≡ o
      → after out m ≡ (render_step o out m).model
  after_by o e = ap (λ (s : Step). s.model) (step_is o e)

  not_refused_here : (r : Refusal) → Accepted out m → answered out m ≡ refusing r out → ⊥
  not_refused_here r a h =
      not_refused (any_free (due m.shared)) (apply_events (due m.shared) (rested m)) r
      (told_alike (sym (answer_by None (open_to a)) ∙ h))

  fifteen_to : Case → answered out m ≡ refusing ClockEnd out → 18446744073709551615 < block_end m
  fifteen_to (at_end h) p = h
  fifteen_to (at_short h k) p = absurd (clock_short (told_alike (sym p ∙ answer_by (Some ShortBuffer) (short h k))))
  fifteen_to (at_open a) p = absurd (not_refused_here ClockEnd a p)

  seventeen_to : Case → answered out m ≡ refusing ShortBuffer out
      → (block_end m ≤ 18446744073709551615) × (length out < 256)
  seventeen_to (at_end h) p = absurd (clock_short (told_alike (sym (answer_by (Some ClockEnd) (ended h)) ∙ p)))
  seventeen_to (at_short h k) p = (h, k)
  seventeen_to (at_open a) p = absurd (not_refused_here ShortBuffer a p)

  unchanged : Case → (Accepted out m → ⊥) → after out m ≡ m
  unchanged (at_end h) n = after_by (Some ClockEnd) (ended h)
  unchanged (at_short h k) n = after_by (Some ShortBuffer) (short h k)
  unchanged (at_open a) n = absurd (n a)

  pub render_rule : RenderRule out m
  render_rule =
      record {
        fifteen = (fifteen_to which, λ h. answer_by (Some ClockEnd) (ended h));
        seventeen = (seventeen_to which, λ h. answer_by (Some ShortBuffer) (short h.0 h.1));
        unchanged = unchanged which;
        answers = λ a.
            record {
              says = (render m).answer;
              count = length (due m.shared);
              entries = _;
              answer = answer_by None (open_to a);
              not_refused = not_refused (any_free (due m.shared)) (apply_events (due m.shared) (rested m));
            };
        goes_on = λ a.
            let s = events_still (due m.shared) (rested m) in
            ap (λ (x : Model). x.shared.clock) (after_by None (open_to a))
            ∙ block_clock (any_free (due m.shared)) (apply_events (due m.shared) (rested m))
            ∙ ap (λ c. c + (apply_events (due m.shared) (rested m)).shared.config.block) s.clock
            ∙ ap (λ (c : Config). m.shared.clock + c.block) s.config;
      }
