-- The two machines after the same calls: B is A with another queue, of which A's is what is left. Every call keeps that.
use Prim.Native.Nat.{ℕ}
use mathlib.Core.Path.{◌≡◌, refl, sym, ap, ◌∙◌, subst}
use mathlib.Core.Logic.{◌⊎◌, inl, inr}
use mathlib.Core.List.{List, [], ◌∷◌}
use Rattle.std.specs.Prelude.{Option, None, Some}
use mathlib.Core.Bool.{false, not, true≢false}
use lib.ListN.{length}
use Rattle.node.specs.declared.order.EventAction.{EventAction}
use Rattle.node.specs.declared.record.VoiceId.{VoiceId}
use Rattle.node.specs.declared.refusal.Refusal.{Refusal}
use Rattle.node.specs.declared.refusal.Refusal.TheVariants.{TableFull}
use Rattle.scheduler.specs.declared.event.Event.{Event}
use Rattle.model.specs.Call as call
use Rattle.ledger.specs.Call as ledger
use Rattle.graph.specs.Refuse.{when}
use Rattle.scheduler.specs.Queue.{full, inserted, due, taken_before, left_after, replacing}
use Rattle.scheduler.proofs.Sorted.{Sorted, inserted_sorted, filter_sorted}
use Rattle.model.specs.SharedState.{with_events}
use Rattle.model.specs.Model.{Model}
use Rattle.model.specs.Make.{Making, config_of, new_model, make}
use Rattle.model.specs.Render.{any_free, apply_events, prepared_if, deadline, render_refusal, render, Heard}
use Rattle.model.specs.Call.{Call, Step, event, schedule_refusal, unless, shared_step, render_step, step, run}
use Rattle.ledger.specs.Ledger.{Ledger, new_ledger}
use Rattle.ledger.proofs.Abstraction.{model_of}
use Rattle.ledger.proofs.Spawns.{ids_of_lem}
use Rattle.ledger.proofs.Nodes.{OwnNodes, own_run, own_new}
use Rattle.ledger.proofs.Simulation.{RunInvariant, step_agrees, kept_step_lem, kept_new}
use Rattle.ledger.proofs.Made.{made}
use Rattle.replaced.specs.Kept.{with_queue, scheduled, is_render, kept_unless, kept_by, kept_step, kept_run}
use Rattle.replaced.proofs.Thin.{Thinned, thinned_taken, thinned_left, thinned_schedule}
use Rattle.replaced.proofs.Applied.{Good, thinned_applies, thinned_free}
use Rattle.replaced.proofs.Lasts.{Single, single_filter, single_replacing, thinned_sorted}
use Rattle.replaced.proofs.Still.{applies_still, prepared_still, heard_q, still_step}
use Rattle.replaced.proofs.Owned.{FitsOf, fits_step, good_of}

-- ---- what goes on from call to call
pub record Related (a b : Model) : Type 0 where
  pub queue : List Event
  pub is : b ≡ with_queue queue a
  pub thin : Thinned a.shared.events queue
  pub order : Sorted queue
  pub single : Single a.shared.events

-- a call is a schedule, a render, or another
pub record Schedules (x : Call) : Type 0 where
  pub time : ℕ
  pub voice : VoiceId
  pub name : List ℕ
  pub action : EventAction
  pub is : x ≡ call.schedule time voice name action

abbrev View : Call → Type 0
View x = Schedules x ⊎ (((out : List ℕ) × (x ≡ call.render out)) ⊎ ((is_render x ≡ false) × (scheduled x ≡ None)))

view : (x : Call) → View x
view (call.add_node kind ports required values glides) = inr (inr (refl, refl))
view (call.remove_node k) = inr (inr (refl, refl))
view (call.connect a b p) = inr (inr (refl, refl))
view (call.disconnect b p) = inr (inr (refl, refl))
view (call.set_sink k) = inr (inr (refl, refl))
view (call.spawn_managed spawn) = inr (inr (refl, refl))
view (call.spawn_loose spawn) = inr (inr (refl, refl))
view (call.free w) = inr (inr (refl, refl))
view call.clear = inr (inr (refl, refl))
view (call.order w name o) = inr (inr (refl, refl))
view (call.schedule t w name a) = inl (record { time = t; voice = w; name = name; action = a; is = refl })
view (call.report k channels samples flag) = inr (inr (refl, refl))
view call.prepare = inr (inr (refl, refl))
view (call.render out) = inr (inl (out, refl))
view (call.ask q) = inr (inr (refl, refl))

-- ---- one call
pub record Stepped (x : Call) (a b : Model) : Type 0 where
  pub related : Related (step x a).model (kept_step x a b).model
  pub answer : is_render x ≡ false → (step x a).answer ≡ (kept_step x a b).answer

module _ (a : Model) (g : Good a) (q : List Event) (h : Thinned a.shared.events q) (s : Sorted q) (i : Single a.shared.events) where
  abbrev b : Model
  b = with_queue q a

  related : Related a b
  related = record { queue = q; is = refl; thin = h; order = s; single = i }

  schedules : (t : ℕ) (w : VoiceId) (name : List ℕ) (c : EventAction) → Stepped (call.schedule t w name c) a b
  schedules t w name c = let r = go (schedule_refusal e a.shared.events) in record { related = r.0; answer = λ z. r.1 }
    where
      e : Event
      e = event t w name c

      mine : Option Refusal → Step
      mine o = unless o a (shared_step a (with_events (replacing e a.shared.events) a.shared) call.done)

      go : (o : Option Refusal) → Related (mine o).model (kept_unless o e b).model × ((mine o).answer ≡ (kept_unless o e b).answer)
      go (Some r) = (related, refl)
      go None = (
        record { queue = inserted e q; is = refl; thin = thinned_schedule e q a.shared.events s h; order = inserted_sorted e q s; single = single_replacing e a.shared.events (thinned_sorted q a.shared.events s h) i },
        refl,
      )

  -- a render that is not refused
  pub renders_both : Related (render a).model (render b).model × ((render a).answer ≡ (render b).answer)
  renders_both = (
    subst (λ (z : Heard). Related z.model (at q).model) (sym mine)
        (subst (λ (z : Heard). Related (heard_q (left_after d p) both).model z.model) (sym theirs)
        (record { queue = left_after d q; is = refl; thin = thinned_left d p q h; order = filter_sorted (λ e. not (due d e)) q s; single = single_filter (λ e. not (due d e)) p i })),
    ap (λ (z : Heard). z.answer) mine ∙ sym (ap (λ (z : Heard). z.answer) theirs),
  )
    where
      p : List Event
      p = a.shared.events

      d : ℕ
      d = deadline a.shared

      at : List Event → Heard
      at l = prepared_if (any_free (taken_before d l)) (apply_events (taken_before d l) (with_queue (left_after d l) a))

      both : Heard
      both = prepared_if (any_free (taken_before d p)) (apply_events (taken_before d p) a)

      mine : at p ≡ heard_q (left_after d p) both
      mine = ap (prepared_if (any_free (taken_before d p))) (applies_still (left_after d p) (taken_before d p) a) ∙ prepared_still (left_after d p) (any_free (taken_before d p)) (apply_events (taken_before d p) a)

      less : Thinned (taken_before d p) (taken_before d q)
      less = thinned_taken d p q h

      theirs : at q ≡ heard_q (left_after d q) both
      theirs =
          ap (λ z. prepared_if z (apply_events (taken_before d q) (with_queue (left_after d q) a))) (thinned_free (taken_before d q) (taken_before d p) less)
          ∙ ap (prepared_if (any_free (taken_before d p))) (applies_still (left_after d q) (taken_before d q) a ∙ ap (with_queue (left_after d q)) (thinned_applies (taken_before d q) (taken_before d p) a g less))
          ∙ prepared_still (left_after d q) (any_free (taken_before d p)) (apply_events (taken_before d p) a)

  renders : (out : List ℕ) → Stepped (call.render out) a b
  renders out = record { related = go (render_refusal a.shared (length out)); answer = λ z. absurd (true≢false z) }
    where
      go : (o : Option Refusal) → Related (render_step o out a).model (render_step o out b).model
      go (Some r) = related
      go None = renders_both.0

  others : (x : Call) → is_render x ≡ false → scheduled x ≡ None → Stepped x a b
  others x r z =
      record {
        related = subst (λ o. Related (step x a).model (kept_by o x a b).model) (sym z)
            (record { queue = q; is = ap (λ (t : Step). t.model) (still_step q x r z a); thin = subst (λ l. Thinned l q) (sym stay) h; order = s; single = subst Single (sym stay) i });
        answer = λ y. sym (ap (λ o. (kept_by o x a b).answer) z ∙ ap (λ (t : Step). t.answer) (still_step q x r z a));
      }
    where
      stay : (step x a).model.shared.events ≡ a.shared.events
      stay = ap (λ (t : Step). t.model.shared.events) (still_step a.shared.events x r z a)

  stepped : (x : Call) → Stepped x a b
  stepped x = go (view x)
    where
      go : View x → Stepped x a b
      go (inl v) = subst (λ y. Stepped y a b) (sym v.is) (schedules v.time v.voice v.name v.action)
      go (inr (inl e)) = subst (λ y. Stepped y a b) (sym e.1) (renders e.0)
      go (inr (inr r)) = others x r.0 r.1

pub related_step : (x : Call) (a b : Model) → Good a → Related a b → Stepped x a b
related_step x a b g t = subst (λ z. Stepped x a z) (sym t.is) (stepped a g t.queue t.thin t.order t.single x)

-- ---- every list of calls, along the ledger, which knows that the stores are good
pub related_run : (xs : List Call) (l : Ledger) → RunInvariant l → OwnNodes l → FitsOf l → (b : Model) → Related (model_of l) b
    → Related (run xs (model_of l)).model (kept_run xs (model_of l) b).model × Good (run xs (model_of l)).model
related_run [] l k o f b t = (t, good_of l k o f)
related_run (x ∷ xs) l k o f b t =
    let n = (ledger.step x l).ledger in
    let a : (step x (model_of l)).model ≡ model_of n = (step_agrees x l k).model in
    let r = (related_step x (model_of l) b (good_of l k o f) t).related in
    let c = (kept_step x (model_of l) b).model in
    subst (λ m. Related (run xs m).model (kept_run xs m c).model × Good (run xs m).model) (sym a)
    (related_run xs n (kept_step_lem x l k) (own_run (x ∷ []) l o) (fits_step x l (ids_of_lem l k.sound) f) c (subst (λ m. Related m c) a r))

pub related_runs : (k : Making) (m : Model) → make k ≡ Some m → (xs : List Call) → Related (run xs m).model (kept_run xs m m).model × Good (run xs m).model
related_runs k m accepted xs =
    let z = made k m accepted in
    subst (λ m. Related (run xs m).model (kept_run xs m m).model × Good (run xs m).model) (sym z.new)
    (related_run xs (new_ledger (config_of k)) (kept_new (config_of k) z.length) (own_new (config_of k)) (λ v i. absurd i) (new_model (config_of k)) (record { queue = []; is = refl; thin = refl; order = tt; single = tt }))

-- ---- "for a queue that would have held them": where B's queue has a place left, B's `schedule` is that of a store that replaces nothing
abbrev pub plain_schedule : Event → Model → Step
plain_schedule e b = unless (when (full b.shared.events) TableFull None) b (shared_step b (with_events (inserted e b.shared.events) b.shared) call.done)

pub held : (e : Event) (b : Model) → full b.shared.events ≡ false → plain_schedule e b ≡ kept_unless None e b
held e b h = ap (λ z. unless (when z TableFull None) b (shared_step b (with_events (inserted e b.shared.events) b.shared) call.done)) h

pub heard_same : (a b : Model) → Good a → Related a b → (render a).answer ≡ (render b).answer
heard_same a b g t = subst (λ (z : Model). (render a).answer ≡ (render z).answer) (sym t.is) (renders_both a g t.queue t.thin t.order t.single).1
