-- What is true of every graph: ids rise and lie below the next one, no node has more than 64 ports, a port has one edge at most, the ends of
-- each edge live, no table has more rows than it has places, and no more ids are given out than there are.
use Rattle.std.specs.Prelude.{ℕ, ◌<◌, ◌≤◌, ◌≡◌, List, true, is_some, length}
use Rattle.lists.specs.Member.{In}
use Rattle.lists.specs.Rising.{RisesFrom}
use Rattle.lists.specs.Lone.{Lone}
use Rattle.node.specs.declared.record.NodeId.{NodeId}
use Rattle.node.specs.declared.record.Node.{Node}
use Rattle.node.specs.declared.record.Edge.{Edge}
use Rattle.edges.specs.Wiring.{ends_at}
use Rattle.graph.specs.Node.{node_at}

abbrev pub id_of : Node → ℕ
id_of n = n.id.0

-- a number, counted by itself
abbrev pub itself : ℕ → ℕ
itself k = k

-- a node of this id is among them
abbrev pub Lives : List Node → NodeId → Type 0
Lives nodes k = is_some (node_at nodes k) ≡ true

pub record Sound (nodes : List Node) (edges : List Edge) (next : ℕ) : Type 0 where
  pub rises : RisesFrom id_of 0 nodes
  pub below : (n : Node) → In n nodes → n.id.0 < next
  pub ports : (n : Node) → In n nodes → n.ports ≤ 64
  pub lone : (b : NodeId) (p : ℕ) → Lone (ends_at b p) edges
  pub ends : (e : Edge) → In e edges → Lives nodes e.from × Lives nodes e.to
  pub few_nodes : length nodes ≤ 512
  pub few_edges : length edges ≤ 1024
  pub ids : next ≤ 4294967296
