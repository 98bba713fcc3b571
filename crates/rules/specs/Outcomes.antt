-- What the events of a render do, one after the other, and what each is told as: SPEC 8.4 and 8.5; and what a free
-- does, called or timed: SPEC 13.1.
use Rattle.std.specs.Prelude.{ℕ, ◌+◌, min, ◌≤◌, ◌<◌, ◌≡◌, ◌⊎◌, ◌↔◌, List, [], ◌∷◌, ◌++◌, map, replicate, length, drop}
use Rattle.std.specs.Prelude.{true, false, Option, None, Some}
use Rattle.lists.specs.Member.{In}
use Rattle.node.specs.declared.name.Name.{Name}
use Rattle.node.specs.declared.order.EventAction.{EventAction}
use Rattle.node.specs.declared.order.EventAction.TheVariants as action
use Rattle.node.specs.declared.order.LastOrder.TheVariants as order
use Rattle.node.specs.declared.record.Edge.{Edge}
use Rattle.node.specs.declared.record.Node.{Node}
use Rattle.node.specs.declared.record.NodeId.{NodeId}
use Rattle.node.specs.declared.record.VoiceId.{VoiceId}
use Rattle.node.specs.declared.refusal.Refusal.{Refusal}
use Rattle.scheduler.specs.declared.event.Event.{Event}
use Rattle.store.specs.declared.answer.Outcome.{Outcome}
use Rattle.store.specs.declared.answer.Outcome.TheVariants.{Applied, NoVoice, NoParameter, NotTaken}
use Rattle.store.specs.declared.answer.Rendered.{Rendered}
use Rattle.voice.specs.declared.voices.Voice.{Voice}
use Rattle.voice.specs.declared.voices.VoiceState.{VoiceState}
use Rattle.voice.specs.declared.voices.VoiceState.TheVariants.{Tracked, Fading, Loose}
use Rattle.model.specs.Model.{Model}
use Rattle.model.specs.Call.{Call, step}
use Rattle.model.specs.Call as call
use Rattle.rules.specs.Left.{Without, No}
use Rattle.rules.specs.Render.{block_end, answered, after}
use Rattle.rules.specs.Events.{pending}
use Rattle.rules.specs.Orders.{Is, Ordering}

-- ---- a free
-- the node with this id is one of the voice w
pub record Its (m : Model) (w : VoiceId) (k : NodeId) : Type 0 where
  pub node : Node
  pub lives : In node m.shared.graph.nodes
  pub owner : node.owner.0 ≡ w.0
  pub id : node.id.0 ≡ k.0

-- the sink k, if there is one, is still there, or was a node that went
abbrev pub Sink : (NodeId → Type 0) → Option NodeId → Option NodeId → Type 0
Sink Went None s = s ≡ None
Sink Went (Some k) s = ((Went k → ⊥) × (s ≡ Some k)) ⊎ (Went k × (s ≡ None))

-- The store r is m without the voice w: without its nodes, the edges at these, and the sink if it was one of them;
-- and nothing else is changed but that the graph is not prepared any more. No pending event goes with the voice, and
-- no steal record is written or marked.
pub record Gone (m : Model) (w : VoiceId) (r : Model) : Type 0 where
  pub voices : Without (Is w) m.voices r.voices
  pub nodes : Without (λ (n : Node). n.owner.0 ≡ w.0) m.shared.graph.nodes r.shared.graph.nodes
  pub edges : Without (λ (e : Edge). Its m w e.from ⊎ Its m w e.to) m.shared.graph.edges r.shared.graph.edges
  pub sink : Sink (Its m w) m.shared.graph.sink r.shared.graph.sink
  pub unprepared : r.shared.graph.prepared ≡ false
  pub order : r.shared.graph.order ≡ m.shared.graph.order
  pub next : r.shared.graph.next ≡ m.shared.graph.next
  pub events : r.shared.events ≡ m.shared.events
  pub steals : r.shared.steals ≡ m.shared.steals
  pub clock : r.shared.clock ≡ m.shared.clock
  pub spawned : r.shared.spawned ≡ m.shared.spawned
  pub config : r.shared.config ≡ m.shared.config

-- what the store is after a free of the voice w, and what it is told as: 1 if the voice is not there, else 0, whether
-- it is tracked, fading or loose
pub data Freeing (m : Model) (w : VoiceId) : Model → Outcome → Type 0 where
  unknown : No (Is w) m.voices → Freeing m w m NoVoice
  known : (v : Voice) → In v m.voices → Is w v → (r : Model) → Gone m w r → Freeing m w r Applied

-- exactly when a free is told as each of the two; it is told as nothing else
pub record FreeExactly (m : Model) (w : VoiceId) (a : Outcome) : Type 0 where
  pub one : (a ≡ NoVoice) ↔ No (Is w) m.voices
  pub zero : (a ≡ Applied) ↔ ((v : Voice) × In v m.voices × Is w v)
  pub either : (a ≡ NoVoice) ⊎ (a ≡ Applied)

abbrev pub FreedExactly : Type 0
FreedExactly = (m : Model) (w : VoiceId) (r : Model) (a : Outcome) → Freeing m w r a → FreeExactly m w a

-- what a direct call of it does
pub record FreeRule (w : VoiceId) (m : Model) : Type 0 where
  pub outcome : Outcome
  pub answer : (step (call.free w) m).answer ≡ call.ordered outcome
  pub frees : Freeing m w (step (call.free w) m).model outcome

-- ---- an event
abbrev pub gate : Name
gate = record { bytes = 103 ∷ 97 ∷ 116 ∷ 101 ∷ replicate 12 0; len = 4 }

-- what the action does to the voice w: a gate is a value for `gate`, whatever name stands beside it
abbrev pub Does : EventAction → Name → VoiceId → Model → Model → Outcome → Type 0
Does (action.Value x) name w m r a = Ordering m w name (order.Value x) r a
Does (action.Glide g) name w m r a = Ordering m w name (order.Glide g) r a
Does (action.Gate x) name w m r a = Ordering m w gate (order.Value x) r a
Does action.Free name w m r a = Freeing m w r a

abbrev pub Happens : Event → Model → Model → Outcome → Type 0
Happens e m r a = Does e.action e.name e.voice m r a

-- the events one after the other, each on the store that those before it left, each told as what it did there
pub data Happen : List Event → Model → Model → List Outcome → Type 0 where
  none : {m : Model} → Happen [] m m []
  next : {e : Event} {q : List Event} {m s r : Model} {a : Outcome} {l : List Outcome}
      → Happens e m s a → Happen q s r l → Happen (e ∷ q) m r (a ∷ l)

-- ---- the events of a render
-- the number that stands in the list for what became of an event
abbrev pub number : Outcome → ℕ
number Applied = 0
number NoVoice = 1
number NoParameter = 2
number NotTaken = 3

-- it has a sink, and is prepared
pub record Sounds (m : Model) : Type 0 where
  pub prepared : m.shared.graph.prepared ≡ true
  pub sink : NodeId
  pub is : m.shared.graph.sink ≡ Some sink

-- what a block is on the store m, if nothing failed before it
pub data Hears (m : Model) : Rendered → Type 0 where
  sounding : Sounds m → Hears m Rendered.Sounding
  silent : (Sounds m → ⊥) → Hears m Rendered.Silent

abbrev pub IsFree : Event → Type 0
IsFree e = e.action ≡ action.Free

-- The events q left the store m; the block is on the store s. A free among them, of a voice that was there or not,
-- prepares, as the call does; if that fails the render answers so, and is not refused.
pub data Prepares (q : List Event) (m : Model) : Model → Rendered → Type 0 where
  as_it_was : {a : Rendered} → No IsFree q → Hears m a → Prepares q m m a
  prepared : {a : Rendered} (e : Event) → In e q → IsFree e → (step call.prepare m).answer ≡ call.done
      → Hears (step call.prepare m).model a → Prepares q m (step call.prepare m).model a
  failed : (e : Event) → In e q → IsFree e → (r : Refusal) → (step call.prepare m).answer ≡ call.refused r
      → Prepares q m m (Rendered.Unprepared r)

-- a fade is so many samples further, and stays at 2^64 - 1
abbrev pub further_state : ℕ → VoiceState → VoiceState
further_state block Tracked = Tracked
further_state block (Fading f) = Fading (record f { position = min (f.position + block) 18446744073709551615 })
further_state block Loose = Loose

abbrev pub further : ℕ → Voice → Voice
further block v = record v { state = further_state block v.state }

-- the fades move exactly if the block sounds
abbrev pub after_block : Rendered → ℕ → List Voice → List Voice
after_block Rendered.Sounding block vs = map (further block) vs
after_block a block vs = vs

-- What a render does, if it is not refused. The events before the end of its block are due: they are taken, all of
-- them, and happen in their order; the list begins with the number of what became of each, and is as it was from
-- there on. Then comes the block: fades move if it sounds, the clock goes on, and nothing else changes.
pub record RenderTakes (out : List ℕ) (m : Model) : Type 0 where
  pub due : List Event
  pub left : List Event
  pub are_due : Without (λ (e : Event). block_end m ≤ e.time) m.shared.events due
  pub are_left : Without (λ (e : Event). e.time < block_end m) m.shared.events left
  pub applied : Model
  pub became : List Outcome
  pub happen : Happen due (pending left m) applied became
  pub ready : Model
  pub says : Rendered
  pub prepares : Prepares due applied ready says
  pub answer : answered out m ≡ call.rendered says (length due) (map number became ++ drop (length due) out)
  pub block : after out m
      ≡ record {
        shared = record ready.shared { clock = block_end m };
        voices = after_block says m.shared.config.block ready.voices;
      }
