-- What each call that is not refused does to the graph: adding a node (SPEC 4.1), removing (SPEC 4.2), connecting
-- (SPEC 4.3), disconnecting (SPEC 4.4), setting the sink (SPEC 4.5). Each of them leaves it unprepared (SPEC 5.1).
use Rattle.std.specs.Prelude.{ℕ, ◌+◌, List, [], ◌∷◌, ◌++◌, map, Bool, false, not, filter}
use Rattle.lists.specs.Find.{filter_o}
use Rattle.node.specs.declared.record.NodeId.{NodeId}
use Rattle.node.specs.declared.record.VoiceId.{VoiceId}
use Rattle.node.specs.declared.record.Node.{Node}
use Rattle.node.specs.declared.record.Edge.{Edge}
use Rattle.edges.specs.Wiring.{drop_at, wired, among, drop_touching}
use Rattle.graph.specs.View.{GraphView, with_sink}
use Rattle.graph.specs.Node.{is_node, owned_by, with_id}
pub use Rattle.graph.specs.View.{with_edges, with_nodes}

-- a node is appended under the next id
abbrev pub append : GraphView → Node → GraphView
append v n =
    record {
      nodes = v.nodes ++ (with_id v.next n ∷ []);
      edges = v.edges;
      sink = v.sink;
      prepared = false;
      order = v.order;
      next = v.next + 1;
    }

abbrev pub edge : NodeId → NodeId → ℕ → Edge
edge a b p = record { from = a; to = b; port = p }

-- the edge at that port goes, and the new one is put last
abbrev pub connect : GraphView → NodeId → NodeId → ℕ → GraphView
connect v a b p = with_edges v (wired v.edges (edge a b p))

abbrev pub disconnect : GraphView → NodeId → ℕ → GraphView
disconnect v b p = with_edges v (drop_at v.edges b p)

abbrev pub set_sink : GraphView → NodeId → GraphView
set_sink v k = with_sink v k

-- the ids of the nodes that pass the test
abbrev pub ids_of : (Node → Bool) → List Node → List ℕ
ids_of goes ns = map (λ n. n.id.0) (filter goes ns)

-- the nodes that pass the test go, with every edge that touches them, and the sink if it is one of them
abbrev pub without : (Node → Bool) → GraphView → GraphView
without goes v =
    record {
      nodes = filter (λ n. not (goes n)) v.nodes;
      edges = drop_touching v.edges (ids_of goes v.nodes);
      sink = filter_o (λ k. not (among (ids_of goes v.nodes) k)) v.sink;
      prepared = false;
      order = v.order;
      next = v.next;
    }

-- host removal, and the removal of a voice
abbrev pub remove_node : GraphView → NodeId → GraphView
remove_node v k = without (is_node k) v

abbrev pub remove_voice : GraphView → VoiceId → GraphView
remove_voice v w = without (owned_by w) v
