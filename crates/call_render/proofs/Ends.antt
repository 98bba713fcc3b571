-- What the due events leave alone: clock and block.
use Rattle.node.specs.declared.refusal.Refusal.{Refusal}
use Prim.Native.Nat.{ℕ, ◌+◌}
use mathlib.Core.Path.{◌≡◌, refl, sym, ap, ◌∙◌}
use mathlib.Core.List.{List, [], ◌∷◌}
use Rattle.std.specs.Prelude.{Option, None, Some, find, Result, Err, Ok}
use mathlib.Core.Bool.{Bool, true, false}
use Rattle.node.specs.declared.name.Name.{Name}
use Rattle.node.specs.declared.order.LastOrder.{LastOrder}
use Rattle.node.specs.declared.record.Node.{Node}
use Rattle.node.specs.declared.record.NodeId.{NodeId}
use Rattle.graph.specs.Node.{node_at}
use Rattle.scheduler.specs.Event.{param_order}
use Rattle.scheduler.specs.declared.event.Event.{Event}
use Rattle.synthdef.specs.Tables.{param_rows}
use Rattle.synthdef.specs.Params.{param_node}
use Rattle.voice.specs.declared.voices.Voice.{Voice}
use Rattle.model.specs.SharedState.{SharedState}
use Rattle.model.specs.Model.{Model, free, freed}
use Rattle.model.specs.Order.{takes, order_node, order_param, order_voice, order}
use Rattle.model.specs.Render.{is_free, apply_event, apply_events, deadline, ready_shared, prepare_outcome, prepared_if}
use Rattle.voice.specs.Voice.{is_voice, id}
use Rattle.call_render.specs.Blocks.{readied, block_to}

event_free : (e : Event) (m : Model) → is_free e.action ≡ true → free e.voice m ≡ apply_event e m
event_free e m h = rw h

event_order : (e : Event) (m : Model) → is_free e.action ≡ false → record { shared = (order e.voice (param_order e).name (param_order e).order m.voices m.shared).shared; voices = m.voices } ≡ apply_event e m
event_order e m h = rw h

freed_ends : (o : Option Voice) (m : Model) → deadline (freed o m).shared ≡ deadline m.shared
freed_ends None m = refl
freed_ends (Some v) m = refl

taken_ends : (b : Bool) (n : Node) (o : LastOrder) (d : SharedState) → takes o n ≡ b → deadline (order_node (Some n) o d).shared ≡ deadline d
taken_ends true n o d h = rw h
taken_ends false n o d h = rw h

node_ends : (x : Option Node) (o : LastOrder) (d : SharedState) → deadline (order_node x o d).shared ≡ deadline d
node_ends None o d = refl
node_ends (Some n) o d = taken_ends (takes o n) n o d refl

param_ends : (p : Option ℕ) (v : Voice) (o : LastOrder) (d : SharedState) → deadline (order_param p v o d).shared ≡ deadline d
param_ends None v o d = refl
param_ends (Some i) v o d = node_ends (node_at d.graph.nodes (id (v.first.0 + i))) o d

order_ends : (x : Option Voice) (name : Name) (o : LastOrder) (d : SharedState) → deadline (order_voice x name o d).shared ≡ deadline d
order_ends None name o d = refl
order_ends (Some v) name o d = param_ends (param_node (param_rows v.params) name) v o d

event_ends : (e : Event) (m : Model) → deadline (apply_event e m).shared ≡ deadline m.shared
event_ends e m = go (is_free e.action) refl
  where
    go : (b : Bool) → is_free e.action ≡ b → deadline (apply_event e m).shared ≡ deadline m.shared
    go true h = ap (λ (k : Model). deadline k.shared) (sym (event_free e m h)) ∙ freed_ends (find (is_voice e.voice) m.voices) m
    go false h = ap (λ (k : Model). deadline k.shared) (sym (event_order e m h)) ∙ order_ends (find (is_voice e.voice) m.voices) (param_order e).name (param_order e).order m.shared

pub all_ends : (l : List Event) (m : Model) → deadline (apply_events l m).shared ≡ deadline m.shared
all_ends [] m = refl
all_ends (e ∷ l) m = all_ends l (apply_event e m) ∙ event_ends e m

ready_ends : (r : Result (Unit {0}) Refusal) (l : List NodeId) (d : SharedState) → deadline (ready_shared r l d) ≡ deadline d
ready_ends (Ok tt) l d = refl
ready_ends (Err x) l d = refl

-- the block, after what was made ready
pub block_is : (b : Bool) (m : Model) (end : ℕ) → end ≡ deadline m.shared → block_to end (readied b m).answer (readied b m).model ≡ prepared_if b m
block_is true m end e =
    ap (λ x. block_to x (readied true m).answer (readied true m).model) (e ∙ sym (ready_ends (prepare_outcome m.shared).answer (prepare_outcome m.shared).order m.shared))
block_is false m end e = ap (λ x. block_to x (readied false m).answer (readied false m).model) e
