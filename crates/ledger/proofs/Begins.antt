-- Where a fade comes from: it was there before the call, with the count that the call's answer gives; or a managed spawn has just begun
-- it, of a tracked voice, with count 0.
use Prim.Native.Nat.{ℕ}
use mathlib.Core.Path.{◌≡◌, refl, sym, ap, ◌∙◌, subst}
use mathlib.Core.Logic.{◌⊎◌, inl, inr, ⊎_elim}
use mathlib.Core.List.{List, [], ◌∷◌, ◌++◌}
use Rattle.std.specs.Prelude.{Option, None, Some, find, Result, Err, Ok}
use mathlib.Core.Bool.{Bool, true, false, not, cond}
use lib.ListN.{length}
use Rattle.lists.specs.Member.{In}
use Rattle.lists.proofs.Member.{in_snoc, and_left}
use Rattle.lists.proofs.Filter.{in_filter}
use Rattle.lists.specs.Count.{more}
use Rattle.node.specs.declared.refusal.Refusal.{Refusal}
use Rattle.node.specs.declared.refusal.Refusal.TheVariants.{Rejected, NoPort}
use Rattle.graph.specs.Refuse.{add_refusal, host_refusal, disconnect_refusal, connect_refusal}
use Rattle.scheduler.specs.Event.{param_order}
use Rattle.scheduler.specs.declared.event.Event.{Event}
use Rattle.store.specs.declared.answer.Rendered.TheVariants as Rendered
use Rattle.voice.specs.declared.voices.Voice.{Voice}
use Rattle.voice.specs.declared.voices.VoiceState.{VoiceState}
use Rattle.voice.specs.declared.voices.VoiceState.TheVariants.{Tracked, Fading, Loose}
use Rattle.voice.specs.declared.voices.Fade.{Fade}
use Rattle.model.specs.SharedState.{sounding}
use Rattle.voice.specs.Voice.{is_voice, is_tracked, with_state, moved_fade}
use Rattle.model.specs.Refuse.{spawn_refusal, report_refusal}
use Rattle.model.specs.Spawn.{new_voice, state_under, tries, fade_of, Spawn}
use Rattle.model.specs.Order.{order}
use Rattle.model.specs.Render.{prepare_outcome, prepare_shared, is_free, any_free, heard, answer_after, is_sounding, due, render_refusal}
use Rattle.model.specs.Call.{Call, Answer, event, schedule_refusal, ready_answer}
use Rattle.model.specs.Call as call
use Rattle.ledger.specs.Ledger.{Ledger, SpawnResult, port_free, port_held, without_voice, stolen, steal_voice, instantiate_or, place, place_within_budget, admitted, admission_on, freed, free}
use Rattle.ledger.specs.Ledger as ledger
use Rattle.ledger.specs.Clear.{without_voices, ended_voices, silent_voices}
use Rattle.ledger.specs.Render.{apply_event, apply_events, counted_if, prepared_if, rested}
use Rattle.ledger.specs.Call.{Step, unless, step, render_step, seen}
use Rattle.ledger.specs.Claim.{tracks, is_sounded}
use Rattle.ledger.proofs.Words.{beat}
use Rattle.ledger.proofs.Preserved.{place_kept, at_shared}
use Rattle.ledger.proofs.Managed.{IdsOf, managed_kept}
use Rattle.ledger.proofs.Records.{tracked_state, was_moved, begun, fade_inj, under_fading, loose_fading}
use Rattle.ledger.proofs.Leaves.{answer_silent}

-- the voice v of the ledger before the call x, which answered a
pub data From (l : Ledger) (a : Answer) (v : Voice) (f : Fade) : Call → Type 0 where
  went_on : {x : Call} (g : Fade) → In (with_state (Fading g) v) l.voices → f ≡ beat a g → From l a v f x
  began : (spawn : Spawn) → In (with_state Tracked v) l.voices → f ≡ fade_of l.shared → From l a v f (call.spawn_managed spawn)

-- ---- what is removed leaves the others as they were
removed_all_sub : (gs : List Voice) (m : Ledger) (v : Voice) → In v (without_voices gs m).voices → In v m.voices
removed_all_sub [] m v i = i
removed_all_sub (g ∷ gs) m v i = (in_filter (λ x. not (is_voice g.id x)) m.voices v (removed_all_sub gs (without_voice g.id m) v i)).0

freed_sub : (o : Option Voice) (m : Ledger) (v : Voice) → In v (freed o m).voices → In v m.voices
freed_sub None m v i = i
freed_sub (Some w) m v i = (in_filter (λ x. not (is_voice w.id x)) m.voices v i).0

applied_sub : (e : Event) (m : Ledger) (v : Voice) → In v (apply_event e m).voices → In v m.voices
applied_sub e m v i = go (is_free e.action) i
  where
    go : (b : Bool) → In v (cond b (free e.voice m) (at_shared m (order e.voice (param_order e).name (param_order e).order m.voices m.shared).shared)).voices → In v m.voices
    go true i = freed_sub (find (is_voice e.voice) m.voices) m v i
    go false i = i

applied_all_sub : (q : List Event) (m : Ledger) (v : Voice) → In v (apply_events q m).voices → In v m.voices
applied_all_sub [] m v i = i
applied_all_sub (e ∷ q) m v i = applied_sub e m v (applied_all_sub q (apply_event e m) v i)

module _ (v : Voice) (f : Fade) (ph : v.state ≡ Fading f) where
  itself : (vs : List Voice) → In v vs → In (with_state (Fading f) v) vs
  itself vs i = subst (λ z. In z vs) (ap (λ s. with_state s v) ph) i

  old : (l : Ledger) (x : Call) (a : Answer) → is_sounded a ≡ false → In v l.voices → From l a v f x
  old l x a h i = went_on f (itself l.voices i) (ap (λ b. moved_fade (more b) f) (sym h))

  guarded : (o : Option Refusal) (x : Call) (l : Ledger) (s : Step) → In v (unless o l s).ledger.voices → (In v s.ledger.voices → From l s.answer v f x) → From l (unless o l s).answer v f x
  guarded (Some r) x l s i g = old l x (call.refused r) refl i
  guarded None x l s i g = g i

  from_counted : (b : Bool) (l : Ledger) (x : Call) (vs : List Voice) → ((u : Voice) → In u vs → In u l.voices) → (a : Answer) → is_sounded a ≡ b → In v (counted_if b vs) → From l a v f x
  from_counted false l x vs sub a h i = old l x a h (sub v i)
  from_counted true l x vs sub a h i =
      let w = was_moved vs v i f ph in
      let e : w.voice ≡ with_state (Fading w.fade) w.voice = ap (λ s. with_state s w.voice) w.state in
      went_on w.fade (subst (λ z. In z l.voices) (e ∙ ap (with_state (Fading w.fade)) (sym w.is)) (sub w.voice w.member))
      (w.moves ∙ ap (λ b. moved_fade (more b) w.fade) (sym h))

  from_block : (b : Bool) (l m : Ledger) → ((u : Voice) → In u m.voices → In u l.voices) → In v (prepared_if b m).ledger.voices
      → (out : List ℕ) (taken : ℕ) (list : List ℕ) → From l (call.rendered (prepared_if b m).answer taken list) v f (call.render out)
  from_block true l m sub i out taken list =
      from_counted (is_sounding (answer_after (prepare_outcome m.shared).answer (prepare_shared m.shared))) l (call.render out) m.voices sub _ refl i
  from_block false l m sub i out taken list = from_counted (is_sounding (heard (sounding m.shared))) l (call.render out) m.voices sub _ refl i

  from_render : (out : List ℕ) (l : Ledger) → In v (step (call.render out) l).ledger.voices → From l (step (call.render out) l).answer v f (call.render out)
  from_render out l i = go (render_refusal l.shared (length out)) i
    where
      q : List Event
      q = due l.shared

      go : (o : Option Refusal) → In v (render_step o out l).ledger.voices → From l (render_step o out l).answer v f (call.render out)
      go (Some r) i = old l (call.render out) (call.rendered (Rendered.Refused r) 0 out) refl i
      go None i = from_block (any_free q) l (apply_events q (rested l)) (applied_all_sub q (rested l)) i out _ _

  -- ---- the spawns
  not_new_voice : (s : VoiceState) → ((g : Fade) → s ≡ Fading g → ⊥) → (vs : List Voice) (n : Voice) → n.state ≡ s → In v (vs ++ (n ∷ [])) → In v vs
  not_new_voice s h vs n e i = ⊎_elim (λ j. j) (λ z. absurd (h f (sym e ∙ ap (λ (x : Voice). x.state) (sym z) ∙ ph))) (in_snoc vs n v i)

  from_budgeted : (spawn : Spawn) (m : Ledger) → In v (place_within_budget spawn m).ledger.voices → In v m.voices
  from_budgeted spawn m =
      place_kept spawn (state_under m.shared.config.budget) (λ n z. In v z.voices → In v m.voices) (λ r. In v r.ledger.voices → In v m.voices)
      (λ n z p e q i. q (not_new_voice (state_under m.shared.config.budget) (under_fading m.shared.config.budget) z.voices (new_voice spawn _ p z.shared) refl i)) (λ z e q. q) (λ n z e g q. q)
      (λ n z w e g q i. q (in_filter (λ x. not (is_voice w.id x)) z.voices v i).0) (tries m.shared.config.budget m.voices) m (λ i. i)

  from_steal : (l : Ledger) → IdsOf l → (w : Voice) → In w l.voices → is_tracked w.state ≡ true → In v (steal_voice w l).voices → In v l.voices ⊎ (In (with_state Tracked v) l.voices × (f ≡ fade_of l.shared))
  from_steal l d w j t = go (port_held w l)
    where
      self : v ≡ with_state (Fading (fade_of l.shared)) w → In (with_state Tracked v) l.voices × (f ≡ fade_of l.shared)
      self e =
          let s : w ≡ with_state Tracked v = ap (λ s. with_state s w) (tracked_state w.state t) ∙ ap (with_state Tracked) (sym e) in
          (subst (λ z. In z l.voices) s j, fade_inj (sym ph ∙ ap (λ (x : Voice). x.state) e))

      go : (o : Option ℕ) → In v (stolen w o l).voices → In v l.voices ⊎ (In (with_state Tracked v) l.voices × (f ≡ fade_of l.shared))
      go None i = inl (in_filter (λ x. not (is_voice w.id x)) l.voices v i).0
      go (Some p) i = ⊎_elim (λ e. inr (self e)) (λ z. inl z.0) (begun d w j (fade_of l.shared) v i)

  from_managed : (spawn : Spawn) (l : Ledger) → IdsOf l → In v (step (call.spawn_managed spawn) l).ledger.voices
      → From l (step (call.spawn_managed spawn) l).answer v f (call.spawn_managed spawn)
  from_managed spawn l d = go (spawn_refusal l.shared l.voices spawn.def spawn.bus spawn.rank)
    where
      R : SpawnResult → Type 0
      R r = In v r.ledger.voices → From l (call.spawned r.answer) v f (call.spawn_managed spawn)

      keeps : (r : SpawnResult) → In v l.voices → From l (call.spawned r.answer) v f (call.spawn_managed spawn)
      keeps r i = old l (call.spawn_managed spawn) (call.spawned r.answer) refl i

      go : (o : Option Refusal) → R (ledger.unless o l (admitted (admission_on spawn.bus spawn.rank l) spawn l))
      go (Some n) = keeps (ledger.refused n l)
      go None =
          managed_kept spawn R l d (λ h i. keeps (ledger.refused Rejected l) i) (λ h i. keeps (place_within_budget spawn l) (from_budgeted spawn l i))
          (λ p w h u j t i.
          ⊎_elim (λ k. keeps (place_within_budget spawn (steal_voice u l)) k) (λ z. began spawn z.0 z.1) (from_steal l d u j (and_left (tracks u) _ t) (from_budgeted spawn (steal_voice u l) i)))

  pub comes : (x : Call) (l : Ledger) → IdsOf l → In v (step x l).ledger.voices → From l (step x l).answer v f x
  comes (call.add_node kind ports required values glides) l d i = guarded (add_refusal l.shared.graph kind ports required) _ l _ i (λ j. old l _ _ refl j)
  comes (call.remove_node k) l d i = guarded (host_refusal l.shared.graph k) _ l _ i (λ j. old l _ _ refl j)
  comes (call.connect a b p) l d i = guarded (connect_refusal l.shared.graph a b p) _ l _ i (λ j. old l _ _ refl j)
  comes (call.disconnect b p) l d i = guarded (disconnect_refusal l.shared.graph b p) _ l _ i (λ j. old l _ _ refl j)
  comes (call.set_sink k) l d i = guarded (host_refusal l.shared.graph k) _ l _ i (λ j. old l _ _ refl j)
  comes (call.spawn_managed spawn) l d i = from_managed spawn l d i
  comes (call.spawn_loose spawn) l d i = go (spawn_refusal l.shared l.voices spawn.def spawn.bus spawn.rank) i
    where
      two : (o : Option ℕ) → In v (instantiate_or o None spawn Loose l (ledger.refused NoPort)).ledger.voices → In v l.voices
      two None i = i
      two (Some p) i = not_new_voice Loose loose_fading l.voices (new_voice spawn Loose p l.shared) refl i

      go : (o : Option Refusal) → In v (ledger.unless o l (place 0 spawn Loose l)).ledger.voices
          → From l (call.spawned (ledger.unless o l (place 0 spawn Loose l)).answer) v f (call.spawn_loose spawn)
      go (Some n) i = old l _ _ refl i
      go None i = old l _ _ refl (two (port_free spawn.bus l) i)
  comes (call.free w) l d i = old l _ _ refl (freed_sub (find (is_voice w) l.voices) l v i)
  comes call.clear l d i =
      let m = without_voices (ended_voices l) l in
      old l _ _ refl (removed_all_sub (ended_voices l) l v (removed_all_sub (silent_voices m) m v i))
  comes (call.order w name o) l d i = old l _ _ refl i
  comes (call.schedule t w name a) l d i = guarded (schedule_refusal (event t w name a) l.shared.events) _ l _ i (λ j. old l _ _ refl j)
  comes (call.report k channels samples flag) l d i = guarded (report_refusal l.shared l.voices k channels (length samples)) _ l _ i (λ j. old l _ _ refl j)
  comes call.prepare l d i = go (prepare_outcome l.shared).answer
    where
      go : (r : Result (Unit {0}) Refusal) → From l (ready_answer r) v f call.prepare
      go (Ok tt) = old l _ _ refl i
      go (Err r) = old l _ _ refl i
  comes (call.render out) l d i = from_render out l i
  comes (call.ask q) l d i = old l _ _ (answer_silent (λ x. port_held x l) q (seen l)) i
