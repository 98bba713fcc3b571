-- The graph as a value of plain lists (SPEC 1). Every call on it is a function on this record.
use Rattle.std.specs.Prelude.{ℕ, List, [], Bool, true, false, Option, None, Some}
use Rattle.node.specs.declared.record.NodeId.{NodeId}
use Rattle.node.specs.declared.record.Node.{Node}
use Rattle.node.specs.declared.record.Edge.{Edge}

-- live nodes by rising id; edges in the order in which they were put; the sink or none; whether it is prepared; the
-- processing order of the last good prepare; the next node id
pub record GraphView : Type 0 where
  pub nodes : List Node
  pub edges : List Edge
  pub sink : Option NodeId
  pub prepared : Bool
  pub order : List NodeId
  pub next : ℕ

-- a new one is empty and unprepared, and its first node id is 0 (SPEC 3)
abbrev pub new_graph : GraphView
new_graph = record { nodes = []; edges = []; sink = None; prepared = false; order = []; next = 0 }

-- ---- one part changed. Other records of the nodes, as after a report, a value or a glide: what is prepared stays so
abbrev pub with_nodes : GraphView → List Node → GraphView
with_nodes v ns = record { nodes = ns; edges = v.edges; sink = v.sink; prepared = v.prepared; order = v.order; next = v.next }

-- other edges, or another sink: unprepared
abbrev pub with_edges : GraphView → List Edge → GraphView
with_edges v es = record { nodes = v.nodes; edges = es; sink = v.sink; prepared = false; order = v.order; next = v.next }

abbrev pub with_sink : GraphView → NodeId → GraphView
with_sink v k = record { nodes = v.nodes; edges = v.edges; sink = Some k; prepared = false; order = v.order; next = v.next }

-- prepared, with this processing order
abbrev pub prepared_by : GraphView → List NodeId → GraphView
prepared_by v l = record { nodes = v.nodes; edges = v.edges; sink = v.sink; prepared = true; order = l; next = v.next }
