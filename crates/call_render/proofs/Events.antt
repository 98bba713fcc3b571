-- The walk over the events: those that are due are applied, one after the other.
use Prim.Native.Nat.{ℕ, zero, suc, ◌+◌, ◌≤◌, ◌<◌, min}
use native.Mathlib.Omega.{arith}
use mathlib.Core.Path.{◌≡◌, refl, sym, ap, ap₂, ◌∙◌}
use mathlib.Core.List.{List, [], ◌∷◌, ◌++◌, append_assoc, append-nil}
use Rattle.std.specs.Prelude.{Option, None, Some, find, is_some}
use Rattle.std.specs.List.{list_any, range_with_len}
use mathlib.Core.Bool.{Bool, true, false, cond, ◌&&◌, ◌||◌}
use lib.ListN.{length, take, drop, get_or, set, length-set, drop_of_length-le, take-append-drop}
use lib.Seq.{length-take-le, drop-drop, drop-set-lt}
use Rattle.std.proofs.lemmas.List.{take_more_set}
use Rattle.lists.proofs.Table.{left_row}
use Rattle.node.specs.declared.record.Node.{Node}
use Rattle.node.specs.declared.record.VoiceId.{VoiceId}
use Rattle.edges.specs.Wiring.{listed}
use Rattle.scheduler.specs.Event.{param_order}
use Rattle.scheduler.specs.Queue.{due, taken_before, left_after}
use Rattle.scheduler.specs.declared.event.Event.{Event}
use Rattle.scheduler.specs.declared.event.ParamOrder.{ParamOrder}
use Rattle.words.specs.Place.{Holds}
use Rattle.event_table.specs.Rows.{events_in}
use Rattle.graph_rows.specs.Node.{nodes_in}
use Rattle.store.specs.declared.answer.Outcome.{Outcome}
use Rattle.store.specs.declared.answer.Outcome.TheVariants.{Applied, NoVoice}
use Rattle.voice.specs.declared.voices.Voice.{Voice}
use Rattle.model.specs.SharedState.{SharedState, with_events}
use Rattle.model.specs.Model.{Model}
use Rattle.model.specs.Order.{outcome_number, free_outcome}
use Rattle.lists.specs.declared.rows.Table.{Table}
use Rattle.lists.specs.Written.{written}
use Rattle.model.proofs.Outcomes.{count_is}
use Rattle.model.specs.Render.{is_free, any_free, apply_event, apply_events, outcomes}
use Rattle.voice.specs.Voice.{is_voice}
use Rattle.voice_rows.specs.Rows.{voice_of, voices_in}
use Rattle.voice_rows.specs.Found.{FoundAt}
use Rattle.memory.specs.declared.state.State.{State}
use Rattle.memory.specs.View.{Memory, model_of}
use Rattle.memory.specs.Lent.{lent_render, lent_voices, lent_events}
use Rattle.memory.specs.Parts.{queued}
use Rattle.call_param.specs.Left.{Reply, is_known, order_left}
use Rattle.call_param.specs.Replies.{Replies}
use Rattle.call_param.proofs.Whole.{freed_unknown, others_known}
use Rattle.call_free.specs.Forgotten.{without_ids}
use Rattle.call_render.specs.Applying.{scene, noted, ids, Spare, Noted, EventApplied, Left, Handed}
use Rattle.call_render.proofs.Freed.{way_order, way_free, say_order, say_free}

-- ---- a voice is noted
module _ (vs : List Voice) (w : VoiceId) (old : Table ℕ 256) where
  abbrev l : List ℕ
  l = ids old

  same : find (is_known l w) vs ≡ None → Noted vs w old old NoVoice
  same e = record { is = ap (λ x. noted x l w.0) (sym e); told = ap free_outcome (sym e); more = omega arith; long = refl }

  pub note_freed : listed l w.0 ≡ true → Noted vs w old old NoVoice
  note_freed h = same (freed_unknown l w vs h)

  pub note_unknown : listed l w.0 ≡ false → (r : Option ℕ) (held : ℕ) (rows : List Voice) → FoundAt r held rows (find (is_voice w) vs) → is_some r ≡ false → Noted vs w old old NoVoice
  note_unknown h None held rows found e = same (others_known l w vs h ∙ sym found.is)
  note_unknown h (Some i) held rows found e = absurd (let z : ◌≡◌ {A = ℕ} 0 1 = cc in omega arith)

  -- it is known: its id is stored at the count
  pub note_known : listed l w.0 ≡ false → (r : Option ℕ) (held : ℕ) (rows : List Voice) → FoundAt r held rows (find (is_voice w) vs) → is_some r ≡ true
      → Spare old → (new : Table ℕ 256) → new.rows ≡ set old.rows old.count w.0 → new.count ≡ old.count + 1 → Noted vs w old new Applied
  note_known h None held rows found e spare new stored more = absurd (let z : ◌≡◌ {A = ℕ} 0 1 = cc in omega arith)
  note_known h (Some i) held rows found e spare new stored more =
      let known : find (is_known l w) vs ≡ Some (get_or rows i (voice_of [])) = others_known l w vs h ∙ sym found.is in
      let below : old.count < length old.rows = omega (arith, spare.0, spare.1) in
      let one : min new.count 256 ≡ old.count + 1 = omega (arith, more, spare.0) in
      let few : min old.count 256 ≡ old.count = omega (arith, spare.0) in
      record {
        is = ap (λ n. take n new.rows) one
            ∙ ap (take (old.count + 1)) stored
            ∙ take_more_set old.rows old.count w.0 below
            ∙ ap (λ n. take n old.rows ++ (w.0 ∷ [])) (sym few)
            ∙ ap (λ x. noted x l w.0) (sym known);
        told = ap free_outcome (sym known);
        more = omega (arith, more);
        long = ap length stored ∙ length-set old.rows old.count w.0;
      }

-- ---- one event
module _ (vs : List Voice) (e : Event) (ns : List Node) (old : Table ℕ 256) where
  pub applied_free : is_free e.action ≡ true → (new : Table ℕ 256) (o : Outcome) → Noted vs e.voice old new o → EventApplied vs e ns old ns new o
  applied_free t new o h =
      record {
        is = λ d. ap (λ z. without_ids z (scene d ns vs)) h.is ∙ way_free (ids old) d ns vs e.voice ∙ rw t;
        told = λ d. h.told ∙ say_free (ids old) d ns vs e.voice ∙ rw t;
        more = h.more;
        long = h.long;
      }

  pub applied_order : is_free e.action ≡ false → (p : ParamOrder) → p ≡ param_order e → (words new : List ℕ) (live : ℕ) (o : Outcome) → ns ≡ take live (nodes_in words)
      → Replies words new live o (order_left (ids old) e.voice p.name p.order vs ns) → EventApplied vs e ns old (take live (nodes_in new)) old o
  applied_order t p is words new live o same h =
      record {
        is = λ d.
            ap (λ (z : Reply). without_ids (ids old) (scene d z.nodes vs)) h.is
            ∙ ap (λ (q : ParamOrder). without_ids (ids old) (scene d (order_left (ids old) e.voice q.name q.order vs ns).nodes vs)) is
            ∙ way_order (ids old) d ns vs e.voice (param_order e).name (param_order e).order
            ∙ rw t;
        told = λ d.
            ap (λ (z : Reply). z.outcome) h.is
            ∙ ap (λ (q : ParamOrder). (order_left (ids old) e.voice q.name q.order vs ns).outcome) is
            ∙ say_order (ids old) d ns vs e.voice (param_order e).name (param_order e).order
            ∙ rw t;
        more = omega arith;
        long = refl;
      }

-- ---- the walk: what the events from i on do to what is so far, all of them do to the start
module _ (deadline : ℕ) (rows : List Event) (n : ℕ) (vs : List Voice) (start : List Node) where
  abbrev rest : ℕ → List Event
  rest i = taken_before deadline (drop i (take n rows))

  -- nothing is left at the end
  over : (i : ℕ) → n ≤ i → n ≤ length rows → rest i ≡ []
  over i h top =
      let long : length (take n rows) ≡ n = length-take-le n rows top in
      let past : length (take n rows) ≤ i = omega arith in
      ap (taken_before deadline) (drop_of_length-le (take n rows) past)

  -- `lent` is the list before the first event, `list` what it holds now
  module _ (lent : List ℕ) where
    pub record EventsApplied (ns : List Node) (freed : Table ℕ 256) (list : List ℕ) (taken i : ℕ) : Type 0 where
      pub passed : i ≤ n
      pub few : freed.count ≤ i
      pub took : taken ≤ i
      pub long : length freed.rows ≡ 256
      pub wide : length list ≡ length lent
      pub left : (d : SharedState) → apply_events (rest i) (without_ids (ids freed) (scene d ns vs)) ≡ apply_events (rest 0) (scene d start vs)
      pub told : (d : SharedState) → take taken list ++ outcomes (rest i) (without_ids (ids freed) (scene d ns vs)) ≡ outcomes (rest 0) (scene d start vs)
      pub many : taken + length (rest i) ≡ length (rest 0)
      pub later : drop taken list ≡ drop taken lent

    -- nothing is noted yet
    pub events_start : (freed : Table ℕ 256) → (freed.count ≡ 0) × (length freed.rows ≡ 256) → EventsApplied start freed lent 0 0
    events_start freed none =
        record {
          passed = omega arith;
          few = omega (arith, none.0);
          took = omega arith;
          long = none.1;
          wide = refl;
          left = λ d. ap (λ k. apply_events (rest 0) (without_ids (take (min k 256) freed.rows) (scene d start vs))) none.0;
          told = λ d. ap (λ k. outcomes (rest 0) (without_ids (take (min k 256) freed.rows) (scene d start vs))) none.0;
          many = omega arith;
          later = refl;
        }

    module _ (d : Event) (ns : List Node) (freed : Table ℕ 256) (list : List ℕ) (taken i : ℕ) (g : EventsApplied ns freed list taken i) (below : i < n) (top : n ≤ length rows) where
      abbrev e : Event
      e = get_or rows i d

      split : (b : Bool) → due deadline e ≡ b → rest i ≡ cond b (e ∷ (rest (i + 1))) (rest (i + 1))
      split b t = ap (taken_before deadline) (left_row d rows n i below top) ∙ ap (λ b. cond b (e ∷ (rest (i + 1))) (rest (i + 1))) t

      abbrev at : SharedState → Model
      at x = without_ids (ids freed) (scene x ns vs)

      module _ (t : due deadline e ≡ true) (new-ns : List Node) (new : Table ℕ 256) (o : Outcome) (h : EventApplied vs e ns freed new-ns new o) (number : ℕ) (said : number ≡ outcome_number o) (room : taken < length list) where
        told_on : (x : SharedState) → take (taken + 1) (set list taken number) ++ outcomes (rest (i + 1)) (without_ids (ids new) (scene x new-ns vs)) ≡ outcomes (rest 0) (scene x start vs)
        told_on x =
            ap₂ (λ a m. a ++ outcomes (rest (i + 1)) m) (take_more_set list taken number room) (h.is x)
            ∙ append_assoc (take taken list) (number ∷ []) (outcomes (rest (i + 1)) (apply_event e (at x)))
            ∙ ap (λ z. take taken list ++ (z ∷ outcomes (rest (i + 1)) (apply_event e (at x)))) (said ∙ ap outcome_number (h.told x))
            ∙ sym (ap (λ z. take taken list ++ outcomes z (at x)) (split true t))
            ∙ g.told x

        later_on : drop (taken + 1) (set list taken number) ≡ drop (taken + 1) lent
        later_on =
            let past : taken < taken + 1 = omega arith in
            drop-set-lt (taken + 1) list taken number past ∙ sym (drop-drop 1 taken list) ∙ ap (drop 1) g.later ∙ drop-drop 1 taken lent

        pub events_on : EventsApplied new-ns new (set list taken number) (taken + 1) (i + 1)
        events_on =
            let more : length (rest i) ≡ suc (length (rest (i + 1))) = ap length (split true t) in
            record {
              passed = omega arith;
              few = omega (arith, h.more, g.few);
              took = omega (arith, g.took);
              long = h.long ∙ g.long;
              wide = length-set list taken number ∙ g.wide;
              left = λ x. ap (apply_events (rest (i + 1))) (h.is x) ∙ sym (ap (λ z. apply_events z (at x)) (split true t)) ∙ g.left x;
              told = told_on;
              many = omega (arith, more, g.many);
              later = later_on;
            }

      pub events_off : due deadline e ≡ false → EventsApplied ns freed list taken (i + 1)
      events_off t =
          record {
            passed = omega arith;
            few = omega (arith, g.few);
            took = omega (arith, g.took);
            long = g.long;
            wide = g.wide;
            left = λ x. sym (ap (λ z. apply_events z (at x)) (split false t)) ∙ g.left x;
            told = λ x. sym (ap (λ z. take taken list ++ outcomes z (at x)) (split false t)) ∙ g.told x;
            many = ap (λ z. taken + length z) (sym (split false t)) ∙ g.many;
            later = g.later;
          }

    module _ (ns : List Node) (freed : Table ℕ 256) (list : List ℕ) (taken i : ℕ) (g : EventsApplied ns freed list taken i) (h : n ≤ i) (top : n ≤ length rows) (room : n ≤ 256) where
      many_done : taken ≡ length (rest 0)
      many_done = let None : length (rest i) ≡ 0 = ap length (over i h top) in omega (arith, None, g.many)

      told_done : (d : SharedState) → list ≡ written (outcomes (rest 0) (scene d start vs)) lent
      told_done d =
          let os = outcomes (rest 0) (scene d start vs) in
          let first : take taken list ≡ os =
          sym (append-nil (take taken list)) ∙ sym (ap (λ z. take taken list ++ outcomes z (without_ids (ids freed) (scene d ns vs))) (over i h top)) ∙ g.told d in
          let long : length os ≡ taken = count_is (rest 0) (scene d start vs) ∙ sym many_done in
          sym (take-append-drop taken list) ∙ ap₂ ◌++◌ first g.later ∙ ap (λ k. os ++ drop k lent) (sym long)

      pub events_done : (all : List Event) → take n rows ≡ all → Left start vs (taken_before deadline all) ns freed lent list taken
      events_done all is =
          record {
            is = λ d. ap (λ z. apply_events (taken_before deadline z) (scene d start vs)) (sym is) ∙ sym (g.left d) ∙ ap (λ z. apply_events z (without_ids (ids freed) (scene d ns vs))) (over i h top);
            told = λ d. told_done d ∙ ap (λ z. written (outcomes (taken_before deadline z) (scene d start vs)) lent) is;
            many = many_done ∙ ap (λ z. length (taken_before deadline z)) is;
            fits = omega (arith, g.few, g.passed, room);
            long = g.long;
          }

  -- ---- whether one is a free
  module _ (d : Event) (top : n ≤ length rows) where
    abbrev pub frees : ℕ → Bool
    frees i = due deadline (get_or rows i d) && is_free (get_or rows i d).action

    pub any_from : (m i : ℕ) → i + m ≡ n → list_any frees (range_with_len i m) ≡ any_free (taken_before deadline (drop i (take n rows)))
    any_from zero i h = sym (ap any_free (over i (omega (arith, h)) top))
    any_from (suc m) i h =
        let below : i < n = omega (arith, h) in
        let ih = any_from m (i + 1) (omega (arith, h)) in
        go (due deadline (get_or rows i d)) ih
        ∙ sym (ap any_free (ap (taken_before deadline) (left_row d rows n i below top)))
      where
        go : (b : Bool) → list_any frees (range_with_len (i + 1) m) ≡ any_free (rest (i + 1))
            → ((b && is_free (get_or rows i d).action) || list_any frees (range_with_len (i + 1) m)) ≡ any_free (cond b (get_or rows i d ∷ rest (i + 1)) (rest (i + 1)))
        go true ih = ap (λ z. is_free (get_or rows i d).action || z) ih
        go false ih = ih

-- ---- all of them: the events are removed from the queue, and the freed voices from the tables
module _ (s : State) (ns es vs ev : List ℕ) (deadline : ℕ) (ns1 : List ℕ) (freed : Table ℕ 256) (lent list : List ℕ) (taken : ℕ)
    (h : Left (take s.nodes (nodes_in ns)) (take s.voices (voices_in vs)) (taken_before deadline (take s.events (events_in ev))) (take s.nodes (nodes_in ns1)) freed lent list taken)
    (ev1 : List ℕ) (k : ℕ) (removed : Holds (events_in ev1) k (left_after deadline (take s.events (events_in ev))))
    (u : State) (counted : u ≡ queued s k) (after : State) (ns2 es2 vs2 : List ℕ)
    (forgot : (m : Memory) → model_of (lent_voices after ns2 es2 vs2 m) ≡ without_ids (ids freed) (model_of (lent_voices u ns1 es vs m))) where
  pub all_applied : (m : Memory) → Handed deadline (model_of (lent_render s ns es m.order vs ev m)) (model_of (lent_render after ns2 es2 m.order vs2 ev1 m)) lent list taken
  all_applied m =
      let old = model_of (lent_render s ns es m.order vs ev m) in
      let queue : List Event → SharedState = λ q. with_events q old.shared in
      record {
        is = forgot (lent_events m.state ev1 m)
            ∙ ap (λ x. without_ids (ids freed) (model_of (lent_voices x ns1 es vs (lent_events m.state ev1 m)))) counted
            ∙ sym (h.is (queue (take k (events_in ev1))))
            ∙ ap (λ q. apply_events (taken_before deadline old.shared.events) (record { shared = queue q; voices = old.voices })) removed.is;
        told = h.told (queue (left_after deadline old.shared.events));
        many = h.many;
      }
