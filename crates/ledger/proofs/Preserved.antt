-- What is true of the ledger after every list of calls is shown move by move: what a call does is a chain of a few moves, and
-- here each call is taken apart into them once. `Preserves` has the moves of all calls but a managed spawn: `unmanaged_step` is for
-- those calls, `kept_step` and `kept_run` are for all, given what a managed spawn does. `OpenMoves` has the moves of the calls that
-- neither wire nor spawn. The port search of a spawn is taken apart by `place_kept`, a managed spawn by `managed_kept` of `Managed`.
use Prim.Native.Nat.{ℕ, zero, suc, ◌+◌, ◌≤◌, ◌<◌}
use mathlib.Core.Path.{◌≡◌, refl, sym, ap, subst, ◌∙◌}
use mathlib.Core.Logic.{inl, inr}
use mathlib.Core.List.{List, [], ◌∷◌, ◌++◌, map}
use Rattle.std.specs.Prelude.{Option, None, Some, find, filter, Result, Err, Ok}
use mathlib.Core.Bool.{Bool, true, false, not, cond, true≢false}
use lib.ListN.{length}
use lib.Ieee.{Float}
use Rattle.graph.proofs.Calls.{when_none}
use Rattle.lists.proofs.Find.{find_in}
use Rattle.lists.specs.Member.{In}
use Rattle.lists.proofs.Filter.{in_filter}
use Rattle.node.specs.declared.record.NodeId.{NodeId}
use Rattle.node.specs.declared.record.VoiceId.{VoiceId}
use Rattle.node.specs.declared.record.Node.{Node}
use Rattle.node.specs.declared.refusal.Refusal.{Refusal}
use Rattle.node.specs.declared.refusal.Refusal.TheVariants.{NoPort, TableFull}
use Rattle.node.specs.Name.{name_of}
use Rattle.graph.specs.Node.{node_at, host_node}
use Rattle.graph.specs.Change as change
use Rattle.graph.specs.Refuse.{add_refusal, host_refusal, disconnect_refusal, connect_refusal}
use Rattle.scheduler.specs.Event.{param_order}
use Rattle.scheduler.specs.Replace.{thinned}
use Rattle.scheduler.specs.Queue.{full, replacing}
use Rattle.scheduler.specs.declared.event.Event.{Event}
use Rattle.node.specs.declared.order.LastOrder.{LastOrder}
use Rattle.node.specs.declared.name.Name.{Name}
use Rattle.synthdef.specs.Tables.{param_rows}
use Rattle.synthdef.specs.Params.{param_node}
use Rattle.store.specs.declared.answer.Rendered.{Rendered}
use Rattle.store.specs.declared.answer.Outcome.TheVariants.{Applied, NotTaken}
use Rattle.store.specs.declared.config.Config.{Config}
use Rattle.voice.specs.declared.voices.Voice.{Voice}
use Rattle.voice.specs.declared.voices.VoiceState.{VoiceState}
use Rattle.voice.specs.declared.voices.VoiceState.TheVariants.{Loose}
use Rattle.model.specs.SharedState.{with_events, sounding}
use Rattle.voice.specs.Steals.{StealLog}
use Rattle.voice.specs.Voice.{is_voice, id, moved}
use Rattle.model.specs.Refuse.{spawn_refusal, report_refusal}
use Rattle.model.specs.Spawn.{next_out, new_voice, Spawn}
use Rattle.model.specs.Clear.{is_silent}
use Rattle.model.specs.Order.{with_node, with_last, takes, order, order_voice, order_param, order_node, stays, report_node, with_report}
use Rattle.model.specs.Render.{prepare_outcome, prepare_shared, ready_shared, is_free, any_free, heard, answer_after, is_sounding, due, render_refusal}
use Rattle.model.specs.Call.{Call, event, schedule_refusal}
use Rattle.model.specs.Call as call
use Rattle.ledger.specs.Holder.{nobody, host, hold, drop_node}
use Rattle.ledger.specs.Ledger.{Ledger, SpawnResult, port_free, without_voice, cut_off, instantiate, instantiate_or, place, refused, admitted, admission_on, freed, free}
use Rattle.ledger.specs.Ledger as ledger
use Rattle.ledger.specs.Clear.{ended, without_voices, ended_voices, silent_voices}
use Rattle.ledger.specs.Render.{apply_event, apply_events, one_more, counted_if, block_of, prepared_if, rested}
use Rattle.ledger.specs.Call.{Step, unless, step, render_step, run}
use Rattle.ledger.specs.Claim.{is_managed}
use Rattle.ledger.proofs.Allowed.{Allowed, spawn_allowed}
pub use Rattle.ledger.specs.Ledger.{at_shared, at_graph}

-- ---- the port search: what holds of it while n tries are left, and what of its outcome
module _ (spawn : Spawn) (s : VoiceState) (Q : ℕ → Ledger → Type 0) (R : SpawnResult → Type 0)
    (instantiates : (n : ℕ) (l : Ledger) (p : ℕ) → port_free spawn.bus l ≡ Some p → Q n l → R (instantiate spawn s p l))
    (spent : (l : Ledger) → port_free spawn.bus l ≡ None → Q zero l → R (refused NoPort l))
    (idle : (n : ℕ) (l : Ledger) → port_free spawn.bus l ≡ None → next_out l.shared spawn.bus spawn.rank l.voices ≡ None → Q (suc n) l → R (refused NoPort l))
    (cuts : (n : ℕ) (l : Ledger) (v : Voice) → port_free spawn.bus l ≡ None → next_out l.shared spawn.bus spawn.rank l.voices ≡ Some v → Q (suc n) l → Q n (cut_off v v.state l)) where
  pub place_kept : (n : ℕ) (l : Ledger) → Q n l → R (place n spawn s l)
  place_kept zero l q = go (port_free spawn.bus l) refl
    where
      go : (o : Option ℕ) → port_free spawn.bus l ≡ o → R (instantiate_or o None spawn s l (refused NoPort))
      go (Some p) e = instantiates zero l p e q
      go None e = spent l e q
  place_kept (suc n) l q = go (port_free spawn.bus l) refl (next_out l.shared spawn.bus spawn.rank l.voices) refl (place_kept n)
    where
      go : (o : Option ℕ) → port_free spawn.bus l ≡ o → (u : Option Voice) → next_out l.shared spawn.bus spawn.rank l.voices ≡ u
          → ((l : Ledger) → Q n l → R (place n spawn s l)) → R (instantiate_or o u spawn s l (λ k. place n spawn s k))
      go (Some p) e u f ih = instantiates (suc n) l p e q
      go None e None f ih = idle n l e f q
      go None e (Some v) f ih = ih (cut_off v v.state l) (cuts n l v e f q)

-- ---- the moves
-- what a report, a value and a glide leave of a node's record
pub record Alike (x n : Node) : Type 0 where
  pub id : n.id ≡ x.id
  pub owner : n.owner ≡ x.owner
  pub ports : n.ports ≡ x.ports
  pub required : n.required ≡ x.required

pub record Preserves (P : Ledger → Type 0) : Type 0 where
  pub add_node : (l : Ledger) (kind : List ℕ) (ports required : ℕ) (values glides : Bool) → add_refusal l.shared.graph kind ports required ≡ None → P l
      → P (at_graph l (change.append l.shared.graph (host_node kind ports required values glides)) l.holders)
  pub remove_node : (l : Ledger) (k : NodeId) → host_refusal l.shared.graph k ≡ None → P l → P (at_graph l (change.remove_node l.shared.graph k) (drop_node k l.holders))
  pub connect : (l : Ledger) (a b : NodeId) (p : ℕ) → connect_refusal l.shared.graph a b p ≡ None → P l
      → P (at_graph l (change.connect l.shared.graph a b p) (hold b p (host a) l.holders))
  pub disconnect : (l : Ledger) (b : NodeId) (p : ℕ) → disconnect_refusal l.shared.graph b p ≡ None → P l
      → P (at_graph l (change.disconnect l.shared.graph b p) (hold b p nobody l.holders))
  pub set_sink : (l : Ledger) (k : NodeId) → P l → P (at_graph l (change.set_sink l.shared.graph k) l.holders)
  pub loose : (l : Ledger) (spawn : Spawn) → spawn_refusal l.shared l.voices spawn.def spawn.bus spawn.rank ≡ None → P l → P (place 0 spawn Loose l).ledger
  pub goes : (l : Ledger) (w : VoiceId) → P l → P (without_voice w l)
  -- the record x of a live node becomes n
  pub node : (l : Ledger) (k : NodeId) (x n : Node) → node_at l.shared.graph.nodes k ≡ Some x → Alike x n → P l → P (at_shared l (with_node n l.shared))
  pub schedule : (l : Ledger) (e : Event) → full (thinned e l.shared.events) ≡ false → P l → P (at_shared l (with_events (replacing e l.shared.events) l.shared))
  pub rest : (l : Ledger) → P l → P (rested l)
  pub prepare : (l : Ledger) → (prepare_outcome l.shared).answer ≡ Ok tt → P l → P (at_shared l (ready_shared (Ok tt) (prepare_outcome l.shared).order l.shared))
  pub block : (l : Ledger) (a : Rendered) → P l → P (block_of a l).ledger

-- two that hold of the ledger hold together
pub both_preserved : {P Q : Ledger → Type 0} → Preserves P → Preserves Q → Preserves (λ l. P l × Q l)
both_preserved a b =
    record {
      add_node = λ l kind ports required values glides e h. (a.add_node l kind ports required values glides e h.0, b.add_node l kind ports required values glides e h.1);
      remove_node = λ l k e h. (a.remove_node l k e h.0, b.remove_node l k e h.1);
      connect = λ l x y p e h. (a.connect l x y p e h.0, b.connect l x y p e h.1);
      disconnect = λ l y p e h. (a.disconnect l y p e h.0, b.disconnect l y p e h.1);
      set_sink = λ l k h. (a.set_sink l k h.0, b.set_sink l k h.1);
      loose = λ l spawn e h. (a.loose l spawn e h.0, b.loose l spawn e h.1);
      goes = λ l w h. (a.goes l w h.0, b.goes l w h.1);
      node = λ l k x n e s h. (a.node l k x n e s h.0, b.node l k x n e s h.1);
      schedule = λ l e f h. (a.schedule l e f h.0, b.schedule l e f h.1);
      rest = λ l h. (a.rest l h.0, b.rest l h.1);
      prepare = λ l e h. (a.prepare l e h.0, b.prepare l e h.1);
      block = λ l r h. (a.block l r h.0, b.block l r h.1);
    }

-- The moves that no host call makes and no spawn: those that a seal leaves open too. `W` is what the removal of a voice asks of its id.
pub record OpenMoves (W : VoiceId → Type 0) (P : Ledger → Type 0) : Type 0 where
  pub known : (l : Ledger) → P l → (v : Voice) → In v l.voices → W v.id
  pub goes : (l : Ledger) (w : VoiceId) → W w → P l → P (without_voice w l)
  pub node : (l : Ledger) (k : NodeId) (x n : Node) → node_at l.shared.graph.nodes k ≡ Some x → Alike x n → P l → P (at_shared l (with_node n l.shared))
  pub schedule : (l : Ledger) (e : Event) → full (thinned e l.shared.events) ≡ false → P l → P (at_shared l (with_events (replacing e l.shared.events) l.shared))
  pub rest : (l : Ledger) → P l → P (rested l)
  pub prepare : (l : Ledger) → (prepare_outcome l.shared).answer ≡ Ok tt → P l → P (at_shared l (ready_shared (Ok tt) (prepare_outcome l.shared).order l.shared))
  pub block : (l : Ledger) (a : Rendered) → P l → P (block_of a l).ledger

pub open_moves : {P : Ledger → Type 0} → Preserves P → OpenMoves (λ w. Unit {0}) P
open_moves k =
    record {
      known = λ l p v i. tt;
      goes = λ l w u p. k.goes l w p;
      node = k.node;
      schedule = k.schedule;
      rest = k.rest;
      prepare = k.prepare;
      block = k.block;
    }

module _ (P : Ledger → Type 0) where
  unless_kept : (o : Option Refusal) (l : Ledger) (s : Step) → P l → (o ≡ None → P s.ledger) → P (unless o l s).ledger
  unless_kept (Some r) l s p f = p
  unless_kept None l s p f = f refl

  pub unless_spawn_kept : (o : Option Refusal) (l : Ledger) (r : SpawnResult) → P l → (o ≡ None → P r.ledger) → P (ledger.unless o l r).ledger
  unless_spawn_kept (Some n) l r p f = p
  unless_spawn_kept None l r p f = f refl

-- each call that makes none but open moves
module _ {W : VoiceId → Type 0} {P : Ledger → Type 0} (k : OpenMoves W P) where
  pub free_kept : (w : VoiceId) (l : Ledger) → P l → P (free w l)
  free_kept w l p = go (find (is_voice w) l.voices) refl
    where
      go : (o : Option Voice) → find (is_voice w) l.voices ≡ o → P (freed o l)
      go None e = p
      go (Some v) e = k.goes l v.id (k.known l p v (find_in (is_voice w) l.voices v e).0) p

  pub removals_kept : (vs : List Voice) → ((v : Voice) → In v vs → W v.id) → (l : Ledger) → P l → P (without_voices vs l)
  removals_kept [] h l p = p
  removals_kept (v ∷ vs) h l p = removals_kept vs (λ u i. h u (inr i)) (without_voice v.id l) (k.goes l v.id (h v (inl refl)) p)

  pub clear_kept : (l : Ledger) → P l → P (step call.clear l).ledger
  clear_kept l p =
      let faded = without_voices (ended_voices l) l in
      let q = removals_kept (ended_voices l) (among (λ v. ended l.shared v.state) l p) l p in
      removals_kept (silent_voices faded) (among (is_silent faded.shared.graph.nodes) faded q) faded q
    where
      among : (t : Voice → Bool) (l : Ledger) → P l → (v : Voice) → In v (filter t l.voices) → W v.id
      among t l p v i = k.known l p v (in_filter t l.voices v i).0

  -- a value or a glide changes a node's record or nothing
  order_node_kept : (j : NodeId) (o : Option Node) (x : LastOrder) (l : Ledger) → node_at l.shared.graph.nodes j ≡ o → P l → P (at_shared l (order_node o x l.shared).shared)
  order_node_kept j None x l e p = p
  order_node_kept j (Some n) x l e p = go (takes x n)
    where
      go : (b : Bool) → P (at_shared l (cond b (record { outcome = Applied; shared = with_node (with_last x n) l.shared }) (stays NotTaken l.shared)).shared)
      go true = k.node l j n (with_last x n) e (record { id = refl; owner = refl; ports = refl; required = refl }) p
      go false = p

  order_param_kept : (o : Option ℕ) (v : Voice) (x : LastOrder) (l : Ledger) → P l → P (at_shared l (order_param o v x l.shared).shared)
  order_param_kept None v x l p = p
  order_param_kept (Some i) v x l p = order_node_kept (id (v.first.0 + i)) (node_at l.shared.graph.nodes (id (v.first.0 + i))) x l refl p

  order_voice_kept : (o : Option Voice) (name : Name) (x : LastOrder) (l : Ledger) → P l → P (at_shared l (order_voice o name x l.shared).shared)
  order_voice_kept None name x l p = p
  order_voice_kept (Some v) name x l p = order_param_kept (param_node (param_rows v.params) name) v x l p

  pub order_kept : (w : VoiceId) (name : Name) (x : LastOrder) (l : Ledger) → P l → P (at_shared l (order w name x l.voices l.shared).shared)
  order_kept w name x l p = order_voice_kept (find (is_voice w) l.voices) name x l p

  pub schedule_kept : (e : Event) (l : Ledger) (s : Step) → s.ledger ≡ at_shared l (with_events (replacing e l.shared.events) l.shared) → P l → P (unless (schedule_refusal e l.shared.events) l s).ledger
  schedule_kept e l s is p =
      unless_kept P (schedule_refusal e l.shared.events) l s p (λ n. subst P (sym is) (k.schedule l e (when_none (full (thinned e l.shared.events)) TableFull None n).0 p))

  report_node_kept : (j : NodeId) (o : Option Node) (samples : List Float) (flag : Bool) (l : Ledger) → node_at l.shared.graph.nodes j ≡ o → P l → P (at_shared l (report_node o samples flag l.shared))
  report_node_kept j None samples flag l e p = p
  report_node_kept j (Some n) samples flag l e p = k.node l j n (with_report samples flag n) e (record { id = refl; owner = refl; ports = refl; required = refl }) p

  pub report_kept : (j : NodeId) (channels : ℕ) (samples : List Float) (flag : Bool) (l : Ledger) → P l → P (step (call.report j channels samples flag) l).ledger
  report_kept j channels samples flag l p =
      unless_kept P (report_refusal l.shared l.voices j channels (length samples)) l _ p (λ e. report_node_kept j (node_at l.shared.graph.nodes j) samples flag l refl p)

  pub prepare_kept : (l : Ledger) → P l → P (at_shared l (prepare_shared l.shared))
  prepare_kept l p = go (prepare_outcome l.shared).answer refl
    where
      go : (r : Result (Unit {0}) Refusal) → (prepare_outcome l.shared).answer ≡ r → P (at_shared l (ready_shared r (prepare_outcome l.shared).order l.shared))
      go (Ok tt) e = k.prepare l e p
      go (Err r) e = p

  event_kept : (e : Event) (l : Ledger) → P l → P (apply_event e l)
  event_kept e l p = go (is_free e.action)
    where
      go : (b : Bool) → P (cond b (free e.voice l) (at_shared l (order e.voice (param_order e).name (param_order e).order l.voices l.shared).shared))
      go true = free_kept e.voice l p
      go false = order_kept e.voice (param_order e).name (param_order e).order l p

  pub events_kept : (q : List Event) (l : Ledger) → P l → P (apply_events q l)
  events_kept [] l p = p
  events_kept (e ∷ q) l p = events_kept q (apply_event e l) (event_kept e l p)

  block_kept : (b : Bool) (l : Ledger) → P l → P (prepared_if b l).ledger
  block_kept true l p =
      k.block (at_shared l (prepare_shared l.shared)) (answer_after (prepare_outcome l.shared).answer (prepare_shared l.shared))
      (prepare_kept l p)
  block_kept false l p = k.block l (heard (sounding l.shared)) p

  pub render_kept : (out : List ℕ) (l : Ledger) → P l → P (step (call.render out) l).ledger
  render_kept out l p = go (render_refusal l.shared (length out))
    where
      q : List Event
      q = due l.shared

      go : (o : Option Refusal) → P (render_step o out l).ledger
      go (Some r) = p
      go None = block_kept (any_free q) (apply_events q (rested l)) (events_kept q (rested l) (k.rest l p))

module _ (P : Ledger → Type 0) (k : Preserves P) where
  abbrev moves : OpenMoves (λ w. Unit {0}) P
  moves = open_moves k

  -- every call, given what a managed spawn does
  pub step_kept : (x : Call) (l : Ledger) → ((spawn : Spawn) → x ≡ call.spawn_managed spawn → P (ledger.spawn_managed spawn l).ledger) → P l → P (step x l).ledger
  step_kept (call.add_node kind ports required values glides) l m p =
      unless_kept P (add_refusal l.shared.graph kind ports required) l _ p (λ e. k.add_node l kind ports required values glides e p)
  step_kept (call.remove_node j) l m p = unless_kept P (host_refusal l.shared.graph j) l _ p (λ e. k.remove_node l j e p)
  step_kept (call.connect a b q) l m p = unless_kept P (connect_refusal l.shared.graph a b q) l _ p (λ e. k.connect l a b q e p)
  step_kept (call.disconnect b q) l m p = unless_kept P (disconnect_refusal l.shared.graph b q) l _ p (λ e. k.disconnect l b q e p)
  step_kept (call.set_sink j) l m p = unless_kept P (host_refusal l.shared.graph j) l _ p (λ e. k.set_sink l j p)
  step_kept (call.spawn_managed spawn) l m p = m spawn refl
  step_kept (call.spawn_loose spawn) l m p =
      unless_spawn_kept P (spawn_refusal l.shared l.voices spawn.def spawn.bus spawn.rank) l (place 0 spawn Loose l) p (λ e. k.loose l spawn e p)
  step_kept (call.free w) l m p = free_kept moves w l p
  step_kept call.clear l m p = clear_kept moves l p
  step_kept (call.order w name o) l m p = order_kept moves w (name_of name) o l p
  step_kept (call.schedule t w name a) l m p = schedule_kept moves (event t w name a) l _ refl p
  step_kept (call.report j channels samples flag) l m p = report_kept moves j channels samples flag l p
  step_kept call.prepare l m p = prepare_kept moves l p
  step_kept (call.render out) l m p = render_kept moves out l p
  step_kept (call.ask q) l m p = p

  pub unmanaged_step : (x : Call) → is_managed x ≡ false → (l : Ledger) → P l → P (step x l).ledger
  unmanaged_step x h l p = step_kept x l (λ spawn e. absurd (true≢false (sym (ap is_managed e) ∙ h))) p

  -- and a managed spawn
  module _ (m : (l : Ledger) (spawn : Spawn) → spawn_refusal l.shared l.voices spawn.def spawn.bus spawn.rank ≡ None → P l → P (admitted (admission_on spawn.bus spawn.rank l) spawn l).ledger) where
    pub kept_step_lem : (x : Call) (l : Ledger) → P l → P (step x l).ledger
    kept_step_lem x l p =
        step_kept x l (λ spawn e. unless_spawn_kept P (spawn_refusal l.shared l.voices spawn.def spawn.bus spawn.rank) l (admitted (admission_on spawn.bus spawn.rank l) spawn l) p (λ r. m l spawn r p)) p

    pub kept_run : (xs : List Call) (l : Ledger) → P l → P (run xs l).ledger
    kept_run [] l p = p
    kept_run (x ∷ xs) l p = kept_run xs (step x l).ledger (kept_step_lem x l p)

-- ---- what speaks of the configuration, the steal records, the voice ids given out and the voices alone: the host's calls, reports,
-- orders, prepares and the clock do not touch it
abbrev pub VoicesOnly : (Config → StealLog → ℕ → List Voice → Type 0) → Ledger → Type 0
VoicesOnly F l = F l.shared.config l.shared.steals l.shared.spawned l.voices

module _ (F : Config → StealLog → ℕ → List Voice → Type 0)
    (goes : (c : Config) (b : StealLog) (n : ℕ) (vs : List Voice) (w : VoiceId) → F c b n vs → F c b n (filter (λ v. not (is_voice w v)) vs))
    (counts : (c : Config) (b : StealLog) (n : ℕ) (vs : List Voice) → F c b n vs → F c b n (map (moved one_more) vs)) where
  -- given what the voice of an accepted spawn does to it
  module _ (instantiates : (l : Ledger) (spawn : Spawn) (p : ℕ) → Allowed l.shared l.voices spawn.def spawn.bus spawn.rank → VoicesOnly F l
      → F l.shared.config l.shared.steals (l.shared.spawned + 1) (l.voices ++ (new_voice spawn Loose p l.shared ∷ []))) where
    pub voices_only_spawn : Preserves (VoicesOnly F)
    voices_only_spawn =
        record {
          add_node = λ l kind ports required values glides e f. f;
          remove_node = λ l k e f. f;
          connect = λ l a b p e f. f;
          disconnect = λ l b p e f. f;
          set_sink = λ l k f. f;
          loose = λ l spawn e f. one l spawn e f (port_free spawn.bus l);
          goes = λ l w f. goes l.shared.config l.shared.steals l.shared.spawned l.voices w f;
          node = λ l k x n e s f. f;
          schedule = λ l e h f. f;
          rest = λ l f. f;
          prepare = λ l e f. f;
          block = λ l a f. sounds l (is_sounding a) f;
        }
      where
        one : (l : Ledger) (spawn : Spawn) → spawn_refusal l.shared l.voices spawn.def spawn.bus spawn.rank ≡ None → VoicesOnly F l
            → (o : Option ℕ) → VoicesOnly F (instantiate_or o None spawn Loose l (refused NoPort)).ledger
        one l spawn e f None = f
        one l spawn e f (Some p) = instantiates l spawn p (spawn_allowed l.shared l.voices spawn.def spawn.bus spawn.rank e) f

        sounds : (l : Ledger) (b : Bool) → VoicesOnly F l → F l.shared.config l.shared.steals l.shared.spawned (counted_if b l.voices)
        sounds l true f = counts l.shared.config l.shared.steals l.shared.spawned l.voices f
        sounds l false f = f

  -- where it asks of that voice only that it is loose, of the next id and of a rank that is allowed
  module _ (instantiates : (c : Config) (b : StealLog) (n : ℕ) (vs : List Voice) (v : Voice) → v.id.0 ≡ n + 1 → v.state ≡ Loose → n < 18446744073709551615 → v.rank ≤ 7 → F c b n vs → F c b (n + 1) (vs ++ (v ∷ []))) where
    pub voices_only : Preserves (VoicesOnly F)
    voices_only = voices_only_spawn (λ l spawn p allow f. instantiates l.shared.config l.shared.steals l.shared.spawned l.voices (new_voice spawn Loose p l.shared) refl refl allow.ids_left allow.rank_low f)
