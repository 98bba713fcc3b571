-- Two nodes with the same fields are the same node, and so with edges.
use Prim.Native.Nat.{ℕ}
use mathlib.Core.Path.{◌≡◌}
use mathlib.Core.Bool.{Bool}
use lib.Ieee.{Float}
use Rattle.node.specs.declared.name.Name.{Name}
use Rattle.node.specs.declared.order.LastOrder.{LastOrder}
use Rattle.node.specs.declared.record.NodeId.{NodeId}
use Rattle.node.specs.declared.record.VoiceId.{VoiceId}
use Rattle.node.specs.declared.record.Node.{Node}
use Rattle.node.specs.declared.record.Edge.{Edge}

abbrev pub voice : ℕ → VoiceId
voice x = record { 0 = x }

made : NodeId → VoiceId → Name → ℕ → ℕ → Bool → Bool → Bool → Float → LastOrder → ℕ → Node
made a b c d e f g h i j k = record { id = a; owner = b; kind = c; ports = d; required = e; takes_values = f; takes_glides = g; done = h; level = i; last = j; noise = k }

pub node_same : (m n : Node) → m.id ≡ n.id → m.owner ≡ n.owner → m.kind ≡ n.kind → m.ports ≡ n.ports → m.required ≡ n.required
    → m.takes_values ≡ n.takes_values → m.takes_glides ≡ n.takes_glides → m.done ≡ n.done → m.level ≡ n.level → m.last ≡ n.last → m.noise ≡ n.noise → m ≡ n
unfolding made
node_same m n a b c d e f g h i j k =
    let same : made m.id m.owner m.kind m.ports m.required m.takes_values m.takes_glides m.done m.level m.last m.noise
    ≡ made n.id n.owner n.kind n.ports n.required n.takes_values n.takes_glides n.done n.level n.last n.noise = cc in
    same

join : NodeId → NodeId → ℕ → Edge
join a b p = record { from = a; to = b; port = p }

pub edge_same : (d e : Edge) → d.from ≡ e.from → d.to ≡ e.to → d.port ≡ e.port → d ≡ e
unfolding join
edge_same d e a b p = let same : join d.from d.to d.port ≡ join e.from e.to e.port = cc in same
