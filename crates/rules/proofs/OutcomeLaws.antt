-- The events of a render, one after the other.
use Prim.Native.Nat.{ℕ, suc, ◌+◌}
use mathlib.Core.Path.{◌≡◌, refl, sym, ap, ◌∙◌}
use mathlib.Core.List.{List, [], ◌∷◌, ◌++◌, map}
use mathlib.Core.Bool.{Bool, true, false, not, ◌&&◌, ◌||◌, false≢true}
use mathlib.Core.Logic.{inl, inr}
use lib.Dec.{ltb}
use lib.ListN.{length, drop}
use borrow.Author.Tests.{ltb-true, ltb-false}
use native.Mathlib.Omega.{arith}
use Rattle.std.specs.Prelude.{◌≤◌, ◌<◌, Option, None, Some, Result, Ok, Err, is_some}
use Rattle.node.specs.declared.name.Name.{Name}
use Rattle.node.specs.declared.order.EventAction.{EventAction}
use Rattle.node.specs.declared.order.EventAction.TheVariants as action
use Rattle.node.specs.declared.order.LastOrder.TheVariants as last
use Rattle.node.specs.declared.record.NodeId.{NodeId}
use Rattle.node.specs.declared.record.VoiceId.{VoiceId}
use Rattle.node.specs.declared.refusal.Refusal.{Refusal}
use Rattle.scheduler.specs.declared.event.Event.{Event}
use Rattle.store.specs.declared.answer.Outcome.{Outcome}
use Rattle.store.specs.declared.answer.Outcome.TheVariants.{Applied, NoVoice, NoParameter, NotTaken}
use Rattle.voice.specs.declared.voices.Voice.{Voice}
use Rattle.voice.specs.declared.voices.VoiceState.{VoiceState}
use Rattle.voice.specs.declared.voices.VoiceState.TheVariants.{Tracked, Fading, Loose}
use Rattle.model.specs.SharedState.{SharedState, sounding, with_clock}
use Rattle.voice.specs.Voice.{moved, moved_state}
use Rattle.model.specs.Model.{Model}
use Rattle.model.specs.Order.{outcome_number}
use Rattle.model.specs.Render.{is_free, any_free, apply_event, apply_events, outcome_of, outcomes, moved_if, Heard}
use Rattle.model.specs.Render.{answer_after, heard, is_sounding, prepare_outcome, prepare_shared, ready_shared}
use Rattle.model.specs.Render.{prepared_if, block_of, due, rested, render}
use Rattle.model.specs.Render as render
use Rattle.model.specs.Call.{ready_answer}
use Rattle.model.specs.Call as call
use Rattle.lists.specs.Member.{In}
use Rattle.lists.proofs.Member.{map_same, none_some}
use Rattle.store.specs.declared.answer.Rendered.{Rendered}
use Rattle.store.specs.declared.config.Config.{Config}
use Rattle.rules.specs.Left.{No}
use Rattle.rules.specs.Render.{block_end, Accepted}
use Rattle.rules.specs.Outcomes.{Does, Happens, Happen, none, next, number}
use Rattle.rules.specs.Outcomes.{Hears, silent, IsFree, Prepares, as_it_was, prepared, failed}
use Rattle.rules.specs.Outcomes.{further, further_state, after_block, RenderTakes}
use Rattle.rules.specs.Outcomes as outcome
use Rattle.rules.proofs.Left.{filter_without}
use Rattle.rules.proofs.EventLaws.{not_true, not_false}
use Rattle.rules.proofs.RenderLaws.{open_to, answer_by, after_by}
use Rattle.rules.proofs.Still.{events_still, prepare_still}
use Rattle.rules.proofs.OrderLaws.{ordering}
use Rattle.rules.proofs.FreeLaws.{freeing}

-- ---- one event
abbrev event : ℕ → VoiceId → Name → EventAction → Event
event t w name a = record { time = t; voice = w; name = name; action = a }

does : (t : ℕ) (w : VoiceId) (name : Name) (a : EventAction) (m : Model)
    → Does a name w m (apply_event (event t w name a) m) (outcome_of (event t w name a) m)
does t w name (action.Value x) m = ordering m w name (last.Value x)
does t w name (action.Glide g) m = ordering m w name (last.Glide g)
does t w name (action.Gate x) m = ordering m w _ (last.Value x)
does t w name action.Free m = freeing m w

pub happens : (e : Event) (m : Model) → Happens e m (apply_event e m) (outcome_of e m)
happens e m = does e.time e.voice e.name e.action m

-- ---- all of them
abbrev became : List Event → Model → List Outcome
became [] m = []
became (e ∷ q) m = outcome_of e m ∷ became q (apply_event e m)

pub happen : (q : List Event) (m : Model) → Happen q m (apply_events q m) (became q m)
happen [] m = none
happen (e ∷ q) m = next (happens e m) (happen q (apply_event e m))

number_is : (a : Outcome) → outcome_number a ≡ number a
number_is Applied = refl
number_is NoVoice = refl
number_is NoParameter = refl
number_is NotTaken = refl

numbers : (q : List Event) (m : Model) → outcomes q m ≡ map number (became q m)
numbers [] m = refl
numbers (e ∷ q) m = rw (number_is (outcome_of e m), numbers q (apply_event e m))

many : (q : List Event) (m : Model) → length (outcomes q m) ≡ length q
many [] m = refl
many (e ∷ q) m = ap (λ n. suc n) (many q (apply_event e m))

-- ---- the prepare inside the render, and the block
free_yes : (a : EventAction) → is_free a ≡ true → a ≡ action.Free
free_yes (action.Value x) h = absurd (false≢true h)
free_yes (action.Glide g) h = absurd (false≢true h)
free_yes (action.Gate x) h = absurd (false≢true h)
free_yes action.Free h = refl

free_is : (e : Event) → IsFree e → is_free e.action ≡ true
free_is e h = ap is_free h

some_free : (q : List Event) → any_free q ≡ true → (e : Event) × In e q × IsFree e
some_free [] h = absurd (false≢true h)
some_free (e ∷ q) h = go (is_free e.action) refl h (some_free q)
  where
    go : (b : Bool) → is_free e.action ≡ b → (b || any_free q) ≡ true
        → (any_free q ≡ true → (f : Event) × In f q × IsFree f) → (f : Event) × In f (e ∷ q) × IsFree f
    go true p k ih = (e, inl refl, free_yes e.action p)
    go false p k ih = let r = ih k in (r.0, inr r.1, r.2)

no_free : (q : List Event) → any_free q ≡ false → No IsFree q
no_free [] h x i f = i
no_free (e ∷ q) h x i f = go (is_free e.action) refl h (no_free q) i
  where
    go : (b : Bool) → is_free e.action ≡ b → (b || any_free q) ≡ false → (any_free q ≡ false → No IsFree q)
        → In x (e ∷ q) → ⊥
    go true p k ih j = false≢true (sym k)
    go false p k ih (inl j) = false≢true (sym p ∙ ap (λ (y : Event). is_free y.action) (sym j) ∙ free_is x f)
    go false p k ih (inr j) = ih k x j f

hears : (m : Model) → Hears m (heard (sounding m.shared))
hears m = go m.shared.graph.prepared refl m.shared.graph.sink refl
  where
    go : (b : Bool) → m.shared.graph.prepared ≡ b → (s : Option NodeId) → m.shared.graph.sink ≡ s
        → Hears m (heard (b && is_some s))
    go true p None q = silent (λ s. none_some (sym q ∙ s.is))
    go true p (Some k) q = outcome.sounding (record { prepared = p; sink = k; is = q })
    go false p s q = silent (λ t. false≢true (sym p ∙ t.prepared))

further_same : (block : ℕ) (s : VoiceState) → moved_state (render.further block) s ≡ further_state block s
further_same block Tracked = refl
further_same block (Fading f) = refl
further_same block Loose = refl

voices_same : (a : Rendered) (block : ℕ) (vs : List Voice) → moved_if (is_sounding a) block vs ≡ after_block a block vs
voices_same Rendered.Sounding block vs =
    map_same (moved (render.further block)) (further block) vs
    (λ v i. ap (λ (s : VoiceState). record v { state = s }) (further_same block v.state))
voices_same Rendered.Silent block vs = refl
voices_same (Rendered.Unprepared r) block vs = refl
voices_same (Rendered.Refused r) block vs = refl

-- what a block that is answered by a makes of the store s: the clock is at c, and the fades have moved by the block
-- of k
abbrev at_clock : ℕ → Rendered → Config → Model → Model
at_clock c a k s = record { shared = record s.shared { clock = c }; voices = after_block a k.block s.voices }

abbrev blocked : Rendered → Model → Model
blocked a s = at_clock (s.shared.clock + s.shared.config.block) a s.shared.config s

block_is : (a : Rendered) (s : Model) → (block_of a s).model ≡ blocked a s
block_is a s =
    ap
    (λ (vs : List Voice). record { shared = with_clock (s.shared.clock + s.shared.config.block) s.shared; voices = vs })
    (voices_same a s.shared.config.block s.voices)

-- the store after a prepare
abbrev readied : Model → Model
readied m = record { shared = prepare_shared m.shared; voices = m.voices }

-- the store on which the block is, the answer, and the block
pub record Ended (q : List Event) (m : Model) (h : Heard) : Type 0 where
  pub ready : Model
  pub prepares : Prepares q m ready h.answer
  pub block : h.model ≡ blocked h.answer ready
  pub clock : ready.shared.clock ≡ m.shared.clock
  pub config : ready.shared.config ≡ m.shared.config

ended : (q : List Event) (m : Model) → Ended q m (prepared_if (any_free q) m)
ended q m = go (any_free q) refl
  where
    -- the prepare answered o, with the order l
    prepare_by : (o : Result (Unit {0}) Refusal) → (prepare_outcome m.shared).answer ≡ o → (e : Event) → In e q
        → IsFree e
        → Ended q m (block_of (answer_after o (prepare_shared m.shared)) (readied m))
    prepare_by (Ok t) p e i f =
        let s : Model = readied m in
        record {
          ready = s;
          prepares = prepared e i f (ap ready_answer p) (hears s);
          block = block_is (heard (sounding s.shared)) s;
          clock = (prepare_still m.shared).clock;
          config = (prepare_still m.shared).config;
        }
    prepare_by (Err r) p e i f =
        let same : prepare_shared m.shared ≡ m.shared =
        ap (λ o. ready_shared o (prepare_outcome m.shared).order m.shared) p in
        record {
          ready = m;
          prepares = failed e i f r (ap ready_answer p);
          block =
              ap
              (λ (d : SharedState). (block_of (Rendered.Unprepared r) (record { shared = d; voices = m.voices })).model)
              same
              ∙ block_is (Rendered.Unprepared r) m;
          clock = refl;
          config = refl;
        }

    go : (b : Bool) → any_free q ≡ b → Ended q m (prepared_if b m)
    go true h = let f = some_free q h in prepare_by (prepare_outcome m.shared).answer refl f.0 f.1 f.2
    go false h =
        record {
          ready = m;
          prepares = as_it_was (no_free q h) (hears m);
          block = block_is (heard (sounding m.shared)) m;
          clock = refl;
          config = refl;
        }

pub render_takes : (out : List ℕ) (m : Model) → Accepted out m → RenderTakes out m
render_takes out m a =
    let q = due m.shared in
    let d = ended q (apply_events q (rested m)) in
    let still = events_still q (rested m) in
    record {
      due = q;
      left = (rested m).shared.events;
      are_due =
          filter_without (λ (e : Event). block_end m ≤ e.time) (λ e. ltb e.time (block_end m))
          (λ e h l. let k = ltb-true _ _ h in omega arith) (λ e h. ltb-false _ _ h)
          m.shared.events;
      are_left =
          filter_without (λ (e : Event). e.time < block_end m) (λ e. not (ltb e.time (block_end m)))
          (λ e h l. let k = ltb-false _ _ (not_true _ h) in omega arith)
          (λ e h. ltb-true _ _ (not_false _ h)) m.shared.events;
      applied = apply_events q (rested m);
      became = became q (rested m);
      happen = happen q (rested m);
      ready = d.ready;
      says = (render m).answer;
      prepares = d.prepares;
      answer =
          answer_by out m None (open_to out m a)
          ∙ ap (λ (k : ℕ). call.rendered (render m).answer (length q) (outcomes q (rested m) ++ drop k out))
          (many q (rested m))
          ∙ ap (λ (l : List ℕ). call.rendered (render m).answer (length q) (l ++ drop (length q) out))
          (numbers q (rested m));
      block =
          after_by out m None (open_to out m a) ∙ d.block
          ∙ ap (λ (c : ℕ). at_clock (c + d.ready.shared.config.block) (render m).answer d.ready.shared.config d.ready)
          (d.clock ∙ still.clock)
          ∙ ap (λ (c : Config). at_clock (m.shared.clock + c.block) (render m).answer c d.ready)
          (d.config ∙ still.config);
    }
