-- What a fade and a new voice put into the graph, for every graph: where there is room, what the model's `fade_graph` and
-- `instantiate_graph` say (proofs/Room.antt). Without a place or an id for each node the graph stays as it was; of the edges those
-- without a place are left out; an id past the last is the last.
use Rattle.std.specs.Prelude.{ℕ, ◌+◌, ◌≤◌, List, [], ◌∷◌, ◌++◌, map, Bool, false, cond, ◌&&◌, leb, length}
use Rattle.node.specs.declared.record.NodeId.{NodeId}
use Rattle.node.specs.declared.record.VoiceId.{VoiceId}
use Rattle.node.specs.declared.record.Node.{Node}
use Rattle.node.specs.declared.record.Edge.{Edge}
use Rattle.edges.specs.Wiring.{put}
use Rattle.graph.specs.View.{GraphView}
use Rattle.graph.specs.Node.{node_limit, id_limit, with_id}
use Rattle.graph.specs.Change.{edge}
use Rattle.synthdef.specs.Tables.{node_rows, edge_rows}
use Rattle.synthdef.specs.Edges.{counted}
use Rattle.synthdef.specs.Instance.{id_after, live_edges}
use Rattle.synthdef.specs.Tables.{DefNodes}
use Rattle.synthdef.specs.declared.def.SynthDef.{SynthDef}
use Rattle.model.specs.SharedState.{with_graph}
use Rattle.voice.specs.Voice.{id}
use Rattle.model.specs.Spawn.{def_node, const_node, pan_node, fade_node, voice_nodes, voice_out}
use Rattle.model.specs.Model.{Model}

-- n nodes more find a place and an id each, in a table of so many nodes
abbrev pub has_room : ℕ → ℕ → ℕ → Bool
has_room count next n = leb (count + n) node_limit && leb (next + n) id_limit

-- consecutive ids
abbrev pub numbered : ℕ → List Node → List Node
numbered k [] = []
numbered k (n ∷ ns) = with_id k n ∷ numbered (k + 1) ns

-- connecting edge by edge in a table that may be full
abbrev pub put_all : List Edge → List Edge → List Edge
put_all es [] = es
put_all es (e ∷ l) = put_all (put es e) l

-- the graph with more nodes, from the next id on, and other edges
abbrev pub grown : GraphView → List Node → List Edge → GraphView
grown g ns es =
    record {
      nodes = g.nodes ++ numbered g.next ns;
      edges = es;
      sink = g.sink;
      prepared = false;
      order = g.order;
      next = g.next + length ns;
    }

-- the model with another graph
abbrev pub regraphed : GraphView → Model → Model
regraphed g m = record { shared = with_graph g m.shared; voices = m.voices }

-- ---- a fade of the voice w, between the node that feeds the bus and the bus
abbrev pub fade_edges : NodeId → NodeId → NodeId → ℕ → List Edge
fade_edges fade from bus p = edge from fade 0 ∷ edge fade bus p ∷ []

unfoldable pub with_fade : VoiceId → NodeId → NodeId → ℕ → GraphView → GraphView
with_fade w from bus p g =
    cond (has_room (length g.nodes) g.next 1)
    (grown g (fade_node w ∷ []) (put_all g.edges (fade_edges (id g.next) from bus p))) g

-- ---- a new voice: its definition's nodes, and where it pans the constant and the pan node
abbrev pub nodes_for : VoiceId → DefNodes → Bool → List Node
nodes_for w ns pan = map (def_node w) (node_rows ns) ++ cond pan (const_node w ∷ pan_node w ∷ []) []

abbrev pub voice_size : ℕ → Bool → ℕ
voice_size n pan = cond pan (n + 2) n

-- its output feeds port 0 of the pan node, the constant port 1
abbrev pub pan_edges : NodeId → ℕ → ℕ → List Edge
pan_edges first output n = edge (id_after first output) (id_after first (n + 1)) 0 ∷ edge (id_after first n) (id_after first (n + 1)) 1 ∷ []

-- "the last edge to a port counts"; then the edges of the pan, and the one to the bus
abbrev pub voice_edges : NodeId → SynthDef → Bool → NodeId → ℕ → List Edge
voice_edges first def pan bus p =
    live_edges (counted (edge_rows def.edges)) first
    ++ (cond pan (pan_edges first def.output (length (node_rows def.nodes))) []
    ++ (edge (id_after first (voice_out def pan)) bus p ∷ []))

-- room is asked for the two nodes of the pan, panned or not, as headroom counts them
unfoldable pub with_voice : VoiceId → SynthDef → Bool → NodeId → ℕ → GraphView → GraphView
with_voice w def pan bus p g =
    cond (has_room (length g.nodes) g.next (length (node_rows def.nodes) + 2))
    (grown g (voice_nodes w def pan) (put_all g.edges (voice_edges (id g.next) def pan bus p))) g

-- what appending n nodes asks for: n places and n ids
pub record Fits (count first n : ℕ) : Type 0 where
  pub places : count + n ≤ 512
  pub ids : first + n ≤ 4294967296
