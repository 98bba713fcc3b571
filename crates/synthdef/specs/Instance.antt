-- What a spawn makes of a definition's nodes and counted edges (SPEC 9.8): nodes with consecutive ids, done flag clear,
-- level 0, no order taken; and edges between them.
use Rattle.std.specs.Prelude.{ℕ, suc, ◌+◌, min, List, [], ◌∷◌, map}
use Rattle.node.specs.Node.{new_node}
use Rattle.node.specs.declared.record.NodeId.{NodeId}
use Rattle.node.specs.declared.record.VoiceId.{VoiceId}
use Rattle.node.specs.declared.record.Node.{Node}
use Rattle.node.specs.declared.record.Edge.{Edge}
use Rattle.synthdef.specs.declared.def.DefNode.{DefNode}
use Rattle.synthdef.specs.declared.def.DefEdge.{DefEdge}

-- the id that stands k after the first; ids end at 2 ^ 32 - 1
abbrev pub id_after : NodeId → ℕ → NodeId
id_after first k = record { 0 = min (first.0 + k) 4294967295 }

abbrev pub live_node : DefNode → NodeId → VoiceId → Node
live_node n id owner = new_node id owner n.kind n.ports n.required n.takes_values n.takes_glides

abbrev pub live_edge : DefEdge → NodeId → Edge
live_edge e first = record { from = id_after first e.from; to = id_after first e.to; port = e.port }

-- the live nodes of a voice, by rising id from the first on
abbrev pub live_nodes : List DefNode → NodeId → ℕ → VoiceId → List Node
live_nodes [] first k owner = []
live_nodes (n ∷ ns) first k owner = live_node n (id_after first k) owner ∷ live_nodes ns first (suc k) owner

-- and the edges between them
abbrev pub live_edges : List DefEdge → NodeId → List Edge
live_edges es first = map (λ e. live_edge e first) es
