-- What becomes of a value or a glide, set directly or by an event: SPEC 8.1 and 8.5.
use Rattle.std.specs.Prelude.{ℕ, ◌+◌, ◌≤◌, ◌≡◌, ◌↔◌, List, map, length, true, cond, eqb}
use Rattle.node.specs.Name.{name_of, text}
use Rattle.node.specs.declared.name.Name.{Name}
use Rattle.node.specs.declared.order.LastOrder.{LastOrder}
use Rattle.node.specs.declared.record.Node.{Node}
use Rattle.node.specs.declared.record.VoiceId.{VoiceId}
use Rattle.synthdef.specs.Tables.{param_rows}
use Rattle.synthdef.specs.declared.def.Param.{Param}
use Rattle.store.specs.declared.answer.Outcome.{Outcome}
use Rattle.store.specs.declared.answer.Outcome.TheVariants.{Applied, NoVoice, NoParameter, NotTaken}
use Rattle.voice.specs.declared.voices.Voice.{Voice}
use Rattle.model.specs.Model.{Model}
use Rattle.model.specs.Call.{Call, step}
use Rattle.model.specs.Call as call
use Rattle.rules.specs.Left.{First, No}
use Rattle.rules.specs.Events.{Named}

-- the voice has the id, whatever its state is
abbrev pub Is : VoiceId → Voice → Type 0
Is w v = v.id.0 ≡ w.0

-- the parameter has the name: both are names of 1 to 16 bytes, and these are the same
pub record Called (name : Name) (p : Param) : Type 0 where
  pub theirs : Named p.name
  pub asked : Named name
  pub bytes : text p.name ≡ text name

-- the node takes orders of that sort, whatever the floats of the order are, its shape and its space
abbrev pub Takes : LastOrder → Node → Type 0
Takes LastOrder.Nothing n = ⊥
Takes (LastOrder.Value x) n = n.takes_values ≡ true
Takes (LastOrder.Glide g) n = n.takes_glides ≡ true

-- the node x, if it is the node n, holds the very order as its last; nothing else of it changes
abbrev pub holding : Node → LastOrder → Node → Node
holding n o x = cond (eqb x.id.0 n.id.0) (record n { last = o }) x

-- the store with the order at the node n, and nothing else changed: it stays prepared, and no voice changes
abbrev pub holds : Node → LastOrder → Model → Model
holds n o m =
    let nodes = map (holding n o) m.shared.graph.nodes in
    record m { shared = record m.shared { graph = record m.shared.graph { nodes = nodes } } }

-- ---- the four cases of an order to the parameter `name` of the voice w
-- the voice is not there
abbrev pub Unknown : Model → VoiceId → Type 0
Unknown m w = No (Is w) m.voices

-- it is there, tracked, fading or loose, and has no parameter of that name
pub record Nameless (m : Model) (w : VoiceId) (name : Name) : Type 0 where
  pub voice : Voice
  pub known : First (Is w) m.voices voice
  pub none : No (Called name) (param_rows voice.params)

-- it has, of two parameters of one name the first, and no node at its place takes that sort
pub record Refusing (m : Model) (w : VoiceId) (name : Name) (o : LastOrder) : Type 0 where
  pub voice : Voice
  pub known : First (Is w) m.voices voice
  pub param : Param
  pub has : First (Called name) (param_rows voice.params) param
  pub none : (n : Node) → First (λ x. x.id.0 ≡ voice.first.0 + param.node) m.shared.graph.nodes n → Takes o n → ⊥

-- it has, and the node at its place takes that sort
pub record Taking (m : Model) (w : VoiceId) (name : Name) (o : LastOrder) : Type 0 where
  pub voice : Voice
  pub known : First (Is w) m.voices voice
  pub param : Param
  pub has : First (Called name) (param_rows voice.params) param
  pub node : Node
  pub place : First (λ x. x.id.0 ≡ voice.first.0 + param.node) m.shared.graph.nodes node
  pub takes : Takes o node

-- what the store is after the order, and what it is told as
pub data Ordering (m : Model) (w : VoiceId) (name : Name) (o : LastOrder) : Model → Outcome → Type 0 where
  no_voice : Unknown m w → Ordering m w name o m NoVoice
  no_parameter : Nameless m w name → Ordering m w name o m NoParameter
  not_taken : Refusing m w name o → Ordering m w name o m NotTaken
  applied : (t : Taking m w name o) → Ordering m w name o (holds t.node o m) Applied

-- exactly when it is told as each of the four
pub record Exactly (m : Model) (w : VoiceId) (name : Name) (o : LastOrder) (a : Outcome) : Type 0 where
  pub one : (a ≡ NoVoice) ↔ Unknown m w
  pub two : (a ≡ NoParameter) ↔ Nameless m w name
  pub three : (a ≡ NotTaken) ↔ Refusing m w name o
  pub zero : (a ≡ Applied) ↔ Taking m w name o

-- of every order, called or timed
abbrev pub ToldExactly : Type 0
ToldExactly =
    (m : Model) (w : VoiceId) (name : Name) (o : LastOrder) (r : Model) (a : Outcome)
    → Ordering m w name o r a → Exactly m w name o a

-- what a direct call of it does
pub record OrderRule (w : VoiceId) (name : List ℕ) (o : LastOrder) (m : Model) : Type 0 where
  pub outcome : Outcome
  pub answer : (step (call.order w name o) m).answer ≡ call.ordered outcome
  pub orders : Ordering m w (name_of name) o (step (call.order w name o) m).model outcome

-- ---- the name that stands for a lent byte string: these bytes if they are 1 to 16, and else no name
pub record NameRule (s : List ℕ) : Type 0 where
  pub named : 1 ≤ length s → length s ≤ 16 → Named (name_of s) × (text (name_of s) ≡ s)
  pub nameless : (1 ≤ length s → length s ≤ 16 → ⊥) → Named (name_of s) → ⊥
