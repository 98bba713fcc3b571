-- What the events of a render leave alone, and what the block after them does.
use Prim.Native.Nat.{ℕ, ◌+◌}
use mathlib.Core.Path.{◌≡◌, refl, ap, ◌∙◌}
use mathlib.Core.List.{List, [], ◌∷◌}
use mathlib.Core.Bool.{Bool, true, false}
use Rattle.std.specs.Prelude.{Option, None, Some, Result, Ok, Err, find}
use Rattle.node.specs.declared.name.Name.{Name}
use Rattle.node.specs.declared.order.LastOrder.{LastOrder}
use Rattle.node.specs.declared.record.Node.{Node}
use Rattle.node.specs.declared.record.NodeId.{NodeId}
use Rattle.node.specs.declared.record.VoiceId.{VoiceId}
use Rattle.node.specs.declared.refusal.Refusal.{Refusal}
use Rattle.graph.specs.Node.{node_at}
use Rattle.scheduler.specs.Event.{param_order}
use Rattle.scheduler.specs.declared.event.Event.{Event}
use Rattle.synthdef.specs.Tables.{param_rows}
use Rattle.synthdef.specs.Params.{param_node}
use Rattle.store.specs.declared.config.Config.{Config}
use Rattle.store.specs.declared.answer.Rendered.{Rendered}
use Rattle.voice.specs.declared.voices.Voice.{Voice}
use Rattle.model.specs.SharedState.{SharedState, sounding}
use Rattle.voice.specs.Voice.{is_voice, id}
use Rattle.model.specs.Order.{takes, order, order_node, order_param, order_voice}
use Rattle.model.specs.Model.{Model, free, freed}
use Rattle.model.specs.Render.{is_free, apply_event, apply_events, prepare_outcome}
use Rattle.model.specs.Render.{prepare_shared, ready_shared, heard}
use Rattle.model.specs.Render.{answer_after, prepared_if}

-- all but the graph and the voices is the same
pub record Still (d e : SharedState) : Type 0 where
  pub config : d.config ≡ e.config
  pub events : d.events ≡ e.events
  pub steals : d.steals ≡ e.steals
  pub clock : d.clock ≡ e.clock
  pub spawned : d.spawned ≡ e.spawned

pub still : (d : SharedState) → Still d d
still d = record { config = refl; events = refl; steals = refl; clock = refl; spawned = refl }

pub then : {c d e : SharedState} → Still c d → Still d e → Still c e
then a b =
    record {
      config = a.config ∙ b.config;
      events = a.events ∙ b.events;
      steals = a.steals ∙ b.steals;
      clock = a.clock ∙ b.clock;
      spawned = a.spawned ∙ b.spawned;
    }

module _ (o : LastOrder) (d : SharedState) where
  node_still : (x : Option Node) → Still (order_node x o d).shared d
  node_still None = still d
  node_still (Some n) = go (takes o n) refl
    where
      go : (b : Bool) → takes o n ≡ b → Still (order_node (Some n) o d).shared d
      go true e = rw e (record { config = refl; events = refl; steals = refl; clock = refl; spawned = refl })
      go false e = rw e (still d)

  param_still : (x : Option ℕ) (v : Voice) → Still (order_param x v o d).shared d
  param_still None v = still d
  param_still (Some i) v = node_still (node_at d.graph.nodes (id (v.first.0 + i)))

  voice_still : (x : Option Voice) (name : Name) → Still (order_voice x name o d).shared d
  voice_still None name = still d
  voice_still (Some v) name = param_still (param_node (param_rows v.params) name) v

pub order_still : (w : VoiceId) (name : Name) (o : LastOrder) (vs : List Voice) (d : SharedState)
    → Still (order w name o vs d).shared d
order_still w name o vs d = voice_still o d (find (is_voice w) vs) name

freed_still : (x : Option Voice) (m : Model) → Still (freed x m).shared m.shared
freed_still None m = still m.shared
freed_still (Some v) m = record { config = refl; events = refl; steals = refl; clock = refl; spawned = refl }

pub free_still : (w : VoiceId) (m : Model) → Still (free w m).shared m.shared
free_still w m = freed_still (find (is_voice w) m.voices) m

pub event_still : (e : Event) (m : Model) → Still (apply_event e m).shared m.shared
event_still e m = go (is_free e.action) refl
  where
    go : (b : Bool) → is_free e.action ≡ b → Still (apply_event e m).shared m.shared
    go true h = rw h (free_still e.voice m)
    go false h = rw h (order_still e.voice (param_order e).name (param_order e).order m.voices m.shared)

pub events_still : (q : List Event) (m : Model) → Still (apply_events q m).shared m.shared
events_still [] m = still m.shared
events_still (e ∷ q) m = then (events_still q (apply_event e m)) (event_still e m)

-- ---- the prepare inside the render, and the block
ready_still : (r : Result (Unit {0}) Refusal) (l : List NodeId) (d : SharedState) → Still (ready_shared r l d) d
ready_still (Ok t) l d = record { config = refl; events = refl; steals = refl; clock = refl; spawned = refl }
ready_still (Err r) l d = still d

pub prepare_still : (d : SharedState) → Still (prepare_shared d) d
prepare_still d = ready_still (prepare_outcome d).answer (prepare_outcome d).order d

pub block_clock : (b : Bool) (m : Model) → (prepared_if b m).model.shared.clock ≡ m.shared.clock + m.shared.config.block
block_clock true m =
    let s = prepare_still m.shared in
    ap (λ c. c + (prepare_shared m.shared).config.block) s.clock
    ∙ ap (λ (c : Config). m.shared.clock + c.block) s.config
block_clock false m = refl

pub block_events : (b : Bool) (m : Model) → (prepared_if b m).model.shared.events ≡ m.shared.events
block_events true m = (prepare_still m.shared).events
block_events false m = refl

heard_not : (b : Bool) (r : Refusal) → heard b ≡ Rendered.Refused r → ⊥
heard_not true r h = cc
heard_not false r h = cc

answer_not : (o : Result (Unit {0}) Refusal) (d : SharedState) (r : Refusal) → answer_after o d ≡ Rendered.Refused r → ⊥
answer_not (Ok t) d r h = heard_not (sounding d) r h
answer_not (Err s) d r h = cc

pub not_refused : (b : Bool) (m : Model) (r : Refusal) → (prepared_if b m).answer ≡ Rendered.Refused r → ⊥
not_refused true m r h = answer_not (prepare_outcome m.shared).answer (prepare_shared m.shared) r h
not_refused false m r h = heard_not (sounding m.shared) r h
