-- No call but `schedule` and `render` looks at the pending events: with another queue it answers the same and leaves the same store
-- with that queue (`still_step`). A render with another queue that comes to the same is the same too (`still-render`).
use Prim.Native.Nat.{ℕ, zero, suc, ◌+◌}
use mathlib.Core.Path.{◌≡◌, refl, sym, ap, ◌∙◌}
use mathlib.Core.List.{List, [], ◌∷◌}
use Rattle.std.specs.Prelude.{Option, None, Some, find, Result, Err, Ok}
use mathlib.Core.Bool.{Bool, true, false, cond, true≢false}
use lib.ListN.{length}
use lib.Ieee.{Float}
use Rattle.node.specs.declared.name.Name.{Name}
use Rattle.node.specs.declared.order.LastOrder.{LastOrder}
use Rattle.node.specs.declared.record.NodeId.{NodeId}
use Rattle.node.specs.declared.record.Node.{Node}
use Rattle.node.specs.declared.refusal.Refusal.{Refusal}
use Rattle.node.specs.declared.refusal.Refusal.TheVariants.{NoPort}
use Rattle.scheduler.specs.declared.event.Event.{Event}
use Rattle.voice.specs.declared.policy.Admission.{Admission}
use Rattle.voice.specs.declared.policy.Admission.TheVariants as admission
use Rattle.voice.specs.declared.voices.Voice.{Voice}
use Rattle.voice.specs.declared.voices.VoiceState.{VoiceState}
use Rattle.voice.specs.declared.voices.VoiceState.TheVariants.{Tracked, Fading, Loose}
use Rattle.store.specs.declared.answer.Outcome.TheVariants.{Applied, NotTaken}
use Rattle.model.specs.Model as store
use Rattle.model.specs.Call as call
use Rattle.lists.proofs.Member.{none_some}
use Rattle.node.specs.Name.{name_of}
use Rattle.edges.specs.Ports.{port_from}
use Rattle.graph.specs.Node.{node_at}
use Rattle.graph.specs.Refuse.{add_refusal, host_refusal, disconnect_refusal, connect_refusal}
use Rattle.scheduler.specs.Event.{param_order}
use Rattle.synthdef.specs.Tables.{param_rows}
use Rattle.synthdef.specs.Params.{param_node}
use Rattle.model.specs.SharedState.{SharedState, with_events, with_steals}
use Rattle.voice.specs.Voice.{is_voice, id, feeder}
use Rattle.model.specs.Voice.{level_or}
use Rattle.model.specs.Refuse.{spawn_refusal, report_refusal}
use Rattle.model.specs.Spawn.{Spawn, next_out, tries, state_under, reclaim_log}
use Rattle.model.specs.Model.{Model, SpawnResult, without_voice, cut_off, stolen, steal_voice, port_free, instantiate_or, place, place_within_budget, steal_then, admitted, admission_on, freed, free, refused}
use Rattle.model.specs.Order.{Ordered, takes, with_node, stays, order_node, order_param, order_voice, order, report_node, free_outcome}
use Rattle.node.specs.Node.{with_last}
use Rattle.model.specs.Clear.{without_voices, ended_voices, silent_voices}
use Rattle.model.specs.Render.{prepare_outcome, ready_shared, prepare_shared, is_free, apply_event, apply_events, answer_after, block_of, prepared_if, Heard}
use Rattle.model.specs.Call.{Call, Question, Step, step, unless, answer_to}
use Rattle.model.specs.Page.{port_now}
use Rattle.replaced.specs.Kept.{with_queue, scheduled, is_render}

module _ (q : List Event) where
  -- the step with the other queue
  abbrev pub queued : Step → Step
  queued s = record { answer = s.answer; model = with_queue q s.model }

  abbrev spawned_q : SpawnResult → SpawnResult
  spawned_q r = record { answer = r.answer; model = with_queue q r.model }

  abbrev spawn_step : SpawnResult → Step
  spawn_step r = record { answer = call.spawned r.answer; model = r.model }

  level_still : (v : Option Voice) (d : SharedState) → level_or (with_events q d) v ≡ level_or d v
  level_still None d = refl
  level_still (Some v) d = refl

  -- no question is about the queue
  asks_still : (x : Question) (m : Model) → answer_to (port_now m.shared.graph.edges) x (with_queue q m) ≡ answer_to (port_now m.shared.graph.edges) x m
  asks_still (call.level w) m = ap call.known (level_still (find (is_voice w) m.voices) m.shared)
  asks_still (call.position w) m = refl
  asks_still (call.voice w) m = refl
  asks_still (call.voice_at i) m = refl
  asks_still call.voices m = refl
  asks_still call.steals m = refl
  asks_still call.edges m = refl
  asks_still call.processing m = refl
  asks_still (call.sources k) m = refl
  asks_still (call.node_record k) m = refl
  asks_still call.clock m = refl
  asks_still (call.page out) m = refl
  asks_still (call.fade_output input ins lent at out outs) m = refl
  asks_still (call.bus_sum inputs counts out outs) m = refl
  asks_still (call.whole_fade input ins lent at out outs) m = refl
  asks_still (call.whole_sum inputs counts out outs) m = refl

  unless_still : (o : Option Refusal) (m : Model) (s t : Step) → t ≡ queued s → unless o (with_queue q m) t ≡ queued (unless o m s)
  unless_still None m s t h = h
  unless_still (Some r) m s t h = refl

  -- ---- spawns
  log_still : (v : Voice) (s : VoiceState) (d : SharedState) → reclaim_log v s (with_events q d) ≡ reclaim_log v s d
  log_still v Tracked d = refl
  log_still v (Fading f) d = refl
  log_still v Loose d = refl

  cut_still : (v : Voice) (s : VoiceState) (m : Model) → cut_off v s (with_queue q m) ≡ with_queue q (cut_off v s m)
  cut_still v s m = ap (λ b. without_voice v.id (with_queue q (record { shared = with_steals b m.shared; voices = m.voices }))) (log_still v s m.shared)

  place_still : (n : ℕ) (spawn : Spawn) (s : VoiceState) (m : Model) → place n spawn s (with_queue q m) ≡ spawned_q (place n spawn s m)
  place_still zero spawn s m = go (port_free spawn.bus m)
    where
      go : (o : Option ℕ) → instantiate_or o None spawn s (with_queue q m) (refused NoPort) ≡ spawned_q (instantiate_or o None spawn s m (refused NoPort))
      go None = refl
      go (Some p) = refl
  place_still (suc n) spawn s m = go (port_free spawn.bus m) (next_out m.shared spawn.bus spawn.rank m.voices) (place_still n spawn s)
    where
      go : (o : Option ℕ) (u : Option Voice) → ((k : Model) → place n spawn s (with_queue q k) ≡ spawned_q (place n spawn s k))
          → instantiate_or o u spawn s (with_queue q m) (λ k. place n spawn s k) ≡ spawned_q (instantiate_or o u spawn s m (λ k. place n spawn s k))
      go (Some p) u ih = refl
      go None None ih = refl
      go None (Some v) ih = ap (place n spawn s) (cut_still v v.state m) ∙ ih (cut_off v v.state m)

  budget_still : (spawn : Spawn) (m : Model) → place_within_budget spawn (with_queue q m) ≡ spawned_q (place_within_budget spawn m)
  budget_still spawn m = place_still (tries m.shared.config.budget m.voices) spawn (state_under m.shared.config.budget) m

  stolen_still : (v : Voice) (o : Option ℕ) (m : Model) → stolen v o (with_queue q m) ≡ with_queue q (stolen v o m)
  stolen_still v None m = refl
  stolen_still v (Some p) m = refl

  steal_still : (o : Option Voice) (spawn : Spawn) (m : Model) → steal_then o spawn (with_queue q m) ≡ spawned_q (steal_then o spawn m)
  steal_still None spawn m = budget_still spawn m
  steal_still (Some v) spawn m =
      ap (place_within_budget spawn) (stolen_still v (port_from m.shared.graph.edges (feeder v) v.bus) m) ∙ budget_still spawn (steal_voice v m)

  admitted_still : (a : Admission) (spawn : Spawn) (m : Model) → admitted a spawn (with_queue q m) ≡ spawned_q (admitted a spawn m)
  admitted_still admission.Admit spawn m = budget_still spawn m
  admitted_still admission.Reject spawn m = refl
  admitted_still (admission.Steal p w) spawn m = steal_still (find (is_voice w) m.voices) spawn m

  spawned_still : (o : Option Refusal) (m : Model) (r t : SpawnResult) → t ≡ spawned_q r → store.unless o (with_queue q m) t ≡ spawned_q (store.unless o m r)
  spawned_still None m r t h = h
  spawned_still (Some n) m r t h = refl

  -- ---- frees and clearing
  freed_still : (o : Option Voice) (m : Model) → freed o (with_queue q m) ≡ with_queue q (freed o m)
  freed_still None m = refl
  freed_still (Some v) m = refl

  removed_all_still : (vs : List Voice) (m : Model) → without_voices vs (with_queue q m) ≡ with_queue q (without_voices vs m)
  removed_all_still [] m = refl
  removed_all_still (v ∷ vs) m = removed_all_still vs (without_voice v.id m)

  clear_still : (m : Model) → step call.clear (with_queue q m) ≡ queued (step call.clear m)
  clear_still m =
      ap (λ z. after (length (ended_voices m)) z) (removed_all_still (ended_voices m) m)
      ∙ ap (λ z. record { answer = call.removed (length (ended_voices m) + length (silent_voices (without_voices (ended_voices m) m))); model = z }) (removed_all_still (silent_voices (without_voices (ended_voices m) m)) (without_voices (ended_voices m) m))
    where
      after : ℕ → Model → Step
      after n k = record { answer = call.removed (n + length (silent_voices k)); model = without_voices (silent_voices k) k }

  -- ---- values, glides, reports, prepares
  abbrev pub ordered_q : Ordered → Ordered
  ordered_q r = record { outcome = r.outcome; shared = with_events q r.shared }

  node_still : (u : Option Node) (o : LastOrder) (d : SharedState) → order_node u o (with_events q d) ≡ ordered_q (order_node u o d)
  node_still None o d = refl
  node_still (Some n) o d = go (takes o n)
    where
      go : (b : Bool) → cond b (record { outcome = Applied; shared = with_node (with_last o n) (with_events q d) }) (stays NotTaken (with_events q d))
          ≡ ordered_q (cond b (record { outcome = Applied; shared = with_node (with_last o n) d }) (stays NotTaken d))
      go true = refl
      go false = refl

  param_still : (i : Option ℕ) (v : Voice) (o : LastOrder) (d : SharedState) → order_param i v o (with_events q d) ≡ ordered_q (order_param i v o d)
  param_still None v o d = refl
  param_still (Some i) v o d = node_still (node_at d.graph.nodes (id (v.first.0 + i))) o d

  pub voice_still : (v : Option Voice) (name : Name) (o : LastOrder) (d : SharedState) → order_voice v name o (with_events q d) ≡ ordered_q (order_voice v name o d)
  voice_still None name o d = refl
  voice_still (Some v) name o d = param_still (param_node (param_rows v.params) name) v o d

  report_still : (u : Option Node) (samples : List Float) (flag : Bool) (d : SharedState) → report_node u samples flag (with_events q d) ≡ with_events q (report_node u samples flag d)
  report_still None samples flag d = refl
  report_still (Some n) samples flag d = refl

  ready_still : (r : Result (Unit {0}) Refusal) (l : List NodeId) (d : SharedState) → ready_shared r l (with_events q d) ≡ with_events q (ready_shared r l d)
  ready_still (Ok tt) l d = refl
  ready_still (Err r) l d = refl

  prepare_still : (d : SharedState) → prepare_shared (with_events q d) ≡ with_events q (prepare_shared d)
  prepare_still d = ready_still (prepare_outcome d).answer (prepare_outcome d).order d

  -- ---- events that are applied
  pub applied_still : (e : Event) (m : Model) → apply_event e (with_queue q m) ≡ with_queue q (apply_event e m)
  applied_still e m = go (is_free e.action)
    where
      go : (b : Bool) → cond b (free e.voice (with_queue q m)) (record { shared = (order e.voice (param_order e).name (param_order e).order m.voices (with_events q m.shared)).shared; voices = m.voices })
          ≡ with_queue q (cond b (free e.voice m) (record { shared = (order e.voice (param_order e).name (param_order e).order m.voices m.shared).shared; voices = m.voices }))
      go true = freed_still (find (is_voice e.voice) m.voices) m
      go false = ap (λ (r : Ordered). record { shared = r.shared; voices = m.voices }) (voice_still (find (is_voice e.voice) m.voices) (param_order e).name (param_order e).order m.shared)

  pub applies_still : (l : List Event) (m : Model) → apply_events l (with_queue q m) ≡ with_queue q (apply_events l m)
  applies_still [] m = refl
  applies_still (e ∷ l) m = ap (apply_events l) (applied_still e m) ∙ applies_still l (apply_event e m)

  abbrev pub heard_q : Heard → Heard
  heard_q h = record { answer = h.answer; model = with_queue q h.model }

  answer_still : (r : Result (Unit {0}) Refusal) (d : SharedState) → answer_after r (with_events q d) ≡ answer_after r d
  answer_still (Ok tt) d = refl
  answer_still (Err r) d = refl

  pub prepared_still : (b : Bool) (m : Model) → prepared_if b (with_queue q m) ≡ heard_q (prepared_if b m)
  prepared_still false m = refl
  prepared_still true m =
      let r = (prepare_outcome m.shared).answer in
      ap (λ d. block_of (answer_after r d) (record { shared = d; voices = m.voices })) (prepare_still m.shared)
      ∙ ap (λ a. block_of a (record { shared = with_events q (prepare_shared m.shared); voices = m.voices })) (answer_still r (prepare_shared m.shared))

  -- ---- a call that is no schedule
  abbrev pub Still : Call → Model → Type 0
  Still x m = step x (with_queue q m) ≡ queued (step x m)

  -- every call but a schedule and a render
  pub still_step : (x : Call) → is_render x ≡ false → scheduled x ≡ None → (m : Model) → Still x m
  still_step (call.add_node kind ports required values glides) r h m = unless_still (add_refusal m.shared.graph kind ports required) m _ _ refl
  still_step (call.remove_node k) r h m = unless_still (host_refusal m.shared.graph k) m _ _ refl
  still_step (call.connect a b p) r h m = unless_still (connect_refusal m.shared.graph a b p) m _ _ refl
  still_step (call.disconnect b p) r h m = unless_still (disconnect_refusal m.shared.graph b p) m _ _ refl
  still_step (call.set_sink k) r h m = unless_still (host_refusal m.shared.graph k) m _ _ refl
  still_step (call.spawn_managed spawn) r h m =
      ap spawn_step (spawned_still (spawn_refusal m.shared m.voices spawn.def spawn.bus spawn.rank) m _ _ (admitted_still (admission_on spawn.bus spawn.rank m) spawn m))
  still_step (call.spawn_loose spawn) r h m =
      ap spawn_step (spawned_still (spawn_refusal m.shared m.voices spawn.def spawn.bus spawn.rank) m _ _ (place_still 0 spawn Loose m))
  still_step (call.free w) r h m = ap (λ k. record { answer = call.ordered (free_outcome (find (is_voice w) m.voices)); model = k }) (freed_still (find (is_voice w) m.voices) m)
  still_step call.clear r h m = clear_still m
  still_step (call.order w name o) r h m =
      ap (λ (r : Ordered). record { answer = call.ordered r.outcome; model = record { shared = r.shared; voices = m.voices } }) (voice_still (find (is_voice w) m.voices) (name_of name) o m.shared)
  still_step (call.schedule t w name a) r h m = absurd (none_some (sym h))
  still_step (call.report k channels samples flag) r h m =
      unless_still (report_refusal m.shared m.voices k channels (length samples)) m _ _
      (ap (λ d. record { answer = call.done; model = record { shared = d; voices = m.voices } }) (report_still (node_at m.shared.graph.nodes k) samples flag m.shared))
  still_step call.prepare r h m =
      ap (λ d. record { answer = call.ready_answer (prepare_outcome m.shared).answer; model = record { shared = d; voices = m.voices } }) (prepare_still m.shared)
  still_step (call.render out) r h m = absurd (true≢false r)
  still_step (call.ask x) r h m = ap (λ a. record { answer = a; model = with_queue q m }) (asks_still x m)
