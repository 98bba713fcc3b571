-- What is left in the lent tables when nodes are removed "with their edges": what `without` of crate graph leaves of the nodes,
-- the edges and the sink.
use Rattle.std.specs.Prelude.{ℕ, ◌<◌, ◌%◌, ◌≡◌, List, Bool, not, length, take, get_or, Option, None, filter}
use Rattle.lists.specs.Find.{filter_o}
use Rattle.lists.specs.Table.{rows_of}
use Rattle.words.specs.Place.{Holds}
use Rattle.node.specs.declared.record.Node.{Node}
use Rattle.node.specs.declared.record.NodeId.{NodeId}
use Rattle.node.specs.declared.record.VoiceId.{VoiceId}
use Rattle.edges.specs.Wiring.{among, drop_touching}
use Rattle.graph.specs.Change.{ids_of}
use Rattle.graph_rows.specs.Node.{nodes_in}
use Rattle.graph_rows.specs.Edge.{edges_in}
use Rattle.graph_tables.specs.declared.removal.Parted.{Parted}
use Rattle.graph_tables.specs.declared.removal.Left.{Left}

-- what the calls of a test return, of a node's id and owner, is whether the node goes
abbrev pub Tells : (NodeId → VoiceId → Bool → Type 0) → (Node → Bool) → Type 0
Tells post goes = (x : Node) (b : Bool) → post x.id x.owner b → b ≡ goes x

-- of the first n nodes of the words ns: those that stay, and the ids of those that go
pub record Parts (ns new : List ℕ) (n : ℕ) (goes : Node → Bool) (r : Parted) : Type 0 where
  pub stay : Holds (nodes_in new) r.stay (filter (λ x. not (goes x)) (take n (nodes_in ns)))
  pub leave : rows_of 512 r.removed.count r.removed.rows ≡ ids_of goes (take n (nodes_in ns))

-- the first n nodes of ns and the first m edges of es, with a sink: what is left of them when these nodes go
pub record Removed (ns es new-ns new-es : List ℕ) (n m : ℕ) (heard : Option NodeId) (goes : Node → Bool) (r : Left) : Type 0 where
  pub nodes : Holds (nodes_in new-ns) r.nodes (filter (λ x. not (goes x)) (take n (nodes_in ns)))
  pub edges : Holds (edges_in new-es) r.edges (drop_touching (take m (edges_in es)) (ids_of goes (take n (nodes_in ns))))
  pub sink : r.sink ≡ filter_o (λ k. not (among (ids_of goes (take n (nodes_in ns))) k)) heard

-- A mark for each remainder of an id: without a mark there, an id is none of these; with one, it is looked for. Nothing here
-- has to be believed: it is what the search by remainders needs.
pub record Marked (marks : List (Option ℕ)) (ids : List ℕ) : Type 0 where
  pub long : length marks ≡ 1024
  pub is : (j : ℕ) → j < length ids → get_or marks (get_or ids j 0 % 1024) None ≡ None → ⊥
