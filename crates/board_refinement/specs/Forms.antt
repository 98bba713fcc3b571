-- Every call of a board has a form: SPEC 18.
use Rattle.std.specs.Prelude.{ℕ, ◌⊎◌, List, Bool, Float}
use Rattle.node.specs.declared.order.EventAction.{EventAction}
use Rattle.node.specs.declared.order.LastOrder.{LastOrder}
use Rattle.node.specs.declared.record.NodeId.{NodeId}
use Rattle.node.specs.declared.record.VoiceId.{VoiceId}
use Rattle.store.specs.declared.wish.Wish.{Wish}
use Rattle.model.specs.Call.{Question}
use Rattle.model.specs.Call as call
use Rattle.model.specs.Wish.{call_of}
use Rattle.console.specs.Console.{ConsoleCall}
use Rattle.console.specs.Console as console

-- the calls that no seal closes: they are the console's own, and are not lent the seal
pub data Unclosed : ConsoleCall → Type 0 where
  turn : Unclosed console.turn
  free : (w : VoiceId) → Unclosed (console.on (call.free w))
  clear : Unclosed (console.on call.clear)
  order : (w : VoiceId) (name : List ℕ) (o : LastOrder) → Unclosed (console.on (call.order w name o))
  schedule : (t : ℕ) (w : VoiceId) (name : List ℕ) (a : EventAction) → Unclosed (console.on (call.schedule t w name a))
  report : (k : NodeId) (channels : ℕ) (samples : List Float) (flag : Bool) → Unclosed (console.on (call.report k channels samples flag))
  prepare : Unclosed (console.on call.prepare)
  render : (out : List ℕ) → Unclosed (console.on (call.render out))
  ask : (q : Question) → Unclosed (console.on (call.ask q))

-- and those that a seal may close: each is lent the seal, by a form of its own (Contract)
pub data Lent : ConsoleCall → Type 0 where
  add_node : (kind : List ℕ) (ports required : ℕ) (values glides : Bool) → Lent (console.on (call.add_node kind ports required values glides))
  remove_node : (k : NodeId) → Lent (console.on (call.remove_node k))
  connect : (a b : NodeId) (p : ℕ) → Lent (console.on (call.connect a b p))
  disconnect : (b : NodeId) (p : ℕ) → Lent (console.on (call.disconnect b p))
  set_sink : (k : NodeId) → Lent (console.on (call.set_sink k))
  spawn : (w : Wish) → Lent (console.on (call_of w))
  wish : (q : ℕ) (w : Wish) → Lent (console.wish q w)

abbrev pub EveryCall : Type 0
EveryCall = (c : ConsoleCall) → Unclosed c ⊎ Lent c
