-- What a spawn and a fade put into the graph at once: nodes under the next ids, edges to them, and an edge to a node that lives.
use Rattle.std.specs.Prelude.{ℕ, ◌+◌, ◌-◌, List, [], ◌∷◌, Bool, cond, ◌&&◌, ◌||◌, leb, ltb, length, is_some}
use Rattle.std.specs.List.{list_all}
use Rattle.node.specs.declared.record.NodeId.{NodeId}
use Rattle.node.specs.declared.record.Node.{Node}
use Rattle.node.specs.declared.record.Edge.{Edge}
use Rattle.edges.specs.Wiring.{edge_limit, wired}
use Rattle.graph.specs.View.{GraphView}
use Rattle.graph.specs.Node.{node_limit, id_limit, node_at, with_id}
use Rattle.graph.specs.Change.{append, connect}

abbrev pub append_all : GraphView → List Node → GraphView
append_all g [] = g
append_all g (n ∷ ns) = append_all (append g n) ns

abbrev pub connect_all : GraphView → List Edge → GraphView
connect_all g [] = g
connect_all g (e ∷ es) = connect_all (connect g e.from e.to e.port) es

-- ---- whether there is room
-- the id is one of n that are given out next
abbrev pub is_new : ℕ → ℕ → NodeId → Bool
is_new next n k = leb next k.0 && ltb (k.0 - next) n

-- its node lives, or is one of them
abbrev pub will_live : List Node → ℕ → ℕ → NodeId → Bool
will_live nodes next n k = is_new next n k || is_some (node_at nodes k)

-- the edge ends at a new node
abbrev pub joins_new : List Node → ℕ → ℕ → Edge → Bool
joins_new nodes next n e = is_new next n e.to && will_live nodes next n e.from

abbrev pub joins : List Node → ℕ → ℕ → Edge → Bool
joins nodes next n e = will_live nodes next n e.from && is_some (node_at nodes e.to)

abbrev pub few_ports : Node → Bool
few_ports n = leb n.ports 64

-- so many nodes find a place and an id each, and so many edges a place
abbrev pub has_room : GraphView → ℕ → ℕ → Bool
has_room g n m = leb n (node_limit - length g.nodes) && (leb n (id_limit - g.next) && leb m (edge_limit - length g.edges))

-- the nodes, which have 64 ports at most, the edges to them, and one to a node that lives
abbrev pub fits : GraphView → List Node → List Edge → Edge → Bool
fits g ns inner outer =
    has_room g (length ns) (length inner + 1)
    && (list_all few_ports ns && (list_all (joins_new g.nodes g.next (length ns)) inner && joins g.nodes g.next (length ns) outer))

-- ---- the graph with them, or without any of them
abbrev pub grown : GraphView → List Node → List Edge → Edge → GraphView
grown g ns inner outer = connect (connect_all (append_all g ns) inner) outer.from outer.to outer.port

abbrev pub with_all : GraphView → List Node → List Edge → Edge → GraphView
with_all g ns inner outer = cond (fits g ns inner outer) (grown g ns inner outer) g

-- ---- the rows of it
-- nodes under the ids from k on
abbrev pub numbered : ℕ → List Node → List Node
numbered k [] = []
numbered k (n ∷ ns) = with_id k n ∷ numbered (k + 1) ns

abbrev pub wired_all : List Edge → List Edge → List Edge
wired_all es [] = es
wired_all es (e ∷ l) = wired_all (wired es e) l
