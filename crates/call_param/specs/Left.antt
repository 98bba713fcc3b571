-- "A value or glide, set directly or by an event, answers yes and becomes the node's last order if the voice is known, has the
-- parameter, and its node takes that sort; else it answers no and changes nothing", on the nodes and voices alone, and while some
-- voices wait to be removed: these are not known any more, and their nodes do not live. With nobody waiting this is `order` of the
-- model (the contract of `set_voice_param`).
use Rattle.std.specs.Prelude.{ℕ, ◌+◌, List, map, Bool, not, cond, ◌&&◌, Option, None, Some, find}
use Rattle.node.specs.declared.name.Name.{Name}
use Rattle.node.specs.declared.order.LastOrder.{LastOrder}
use Rattle.node.specs.declared.record.NodeId.{NodeId}
use Rattle.node.specs.declared.record.VoiceId.{VoiceId}
use Rattle.node.specs.declared.record.Node.{Node}
use Rattle.edges.specs.Wiring.{listed}
use Rattle.graph.specs.Node.{is_node, owned_by_any}
use Rattle.synthdef.specs.Tables.{param_rows}
use Rattle.synthdef.specs.Params.{param_node}
use Rattle.store.specs.declared.answer.Outcome.{Outcome}
use Rattle.store.specs.declared.answer.Outcome.TheVariants.{Applied, NoVoice, NoParameter, NotTaken}
use Rattle.voice.specs.declared.voices.Voice.{Voice}
use Rattle.voice.specs.Voice.{is_voice, id}
use Rattle.model.specs.Order.{takes, with_last}

-- the node of this id, if its owner is none of the freed voices
abbrev pub is_left : List ℕ → NodeId → Node → Bool
is_left freed k n = not (owned_by_any freed n) && is_node k n

-- the voice of this id, if it is none of the freed ones
abbrev pub is_known : List ℕ → VoiceId → Voice → Bool
is_known freed w v = not (listed freed v.id.0) && is_voice w v

-- the answer, and the nodes then
pub record Reply : Type 0 where
  pub outcome : Outcome
  pub nodes : List Node

abbrev pub reply : Outcome → List Node → Reply
reply o ns = record { outcome = o; nodes = ns }

abbrev pub replaced_left : List ℕ → List Node → Node → List Node
replaced_left freed ns n = map (λ x. cond (is_left freed n.id x) n x) ns

abbrev pub reply_node : List ℕ → Option Node → LastOrder → List Node → Reply
reply_node freed None o ns = reply NotTaken ns
reply_node freed (Some n) o ns = cond (takes o n) (reply Applied (replaced_left freed ns (with_last o n))) (reply NotTaken ns)

abbrev pub reply_param : List ℕ → Option ℕ → Voice → LastOrder → List Node → Reply
reply_param freed None v o ns = reply NoParameter ns
reply_param freed (Some i) v o ns = reply_node freed (find (is_left freed (id (v.first.0 + i))) ns) o ns

abbrev pub reply_voice : List ℕ → Option Voice → Name → LastOrder → List Node → Reply
reply_voice freed None name o ns = reply NoVoice ns
reply_voice freed (Some v) name o ns = reply_param freed (param_node (param_rows v.params) name) v o ns

abbrev pub order_left : List ℕ → VoiceId → Name → LastOrder → List Voice → List Node → Reply
order_left freed w name o vs ns = reply_voice freed (find (is_known freed w) vs) name o ns
