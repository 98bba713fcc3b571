-- What is live in the graph's two tables, and the processing order (SPEC 5.2).
use Rattle.std.specs.Prelude.{ℕ, suc, ◌≤◌, List, [], ◌∷◌, map, cond, ◌≡◌, refl, leb}
use Rattle.std.proofs.Common.{le-leb}
use Rattle.node.specs.declared.record.Node.{Node}
use Rattle.node.specs.declared.record.NodeId.{NodeId}
use Rattle.node.specs.declared.record.Edge.{Edge}
use Rattle.rank.specs.Order.{Arc, arc, order}

-- The rows of the node table are the live nodes, by rising id. A table whose ids do not rise, which no call makes, is read
-- up to the first row that does not rise: here, whose id is below `least`.
unfoldable pub rising_from : ℕ → List Node → List Node
rising_from least [] = []
rising_from least (x ∷ l) = cond (leb least x.id.0) (x ∷ rising_from (suc x.id.0) l) []

unfoldable pub live_nodes : List Node → List Node
live_nodes = rising_from 0

abbrev pub id_of : Node → ℕ
id_of x = x.id.0

unfoldable pub live_ids : List Node → List ℕ
live_ids nodes = map id_of (live_nodes nodes)

abbrev pub arc_of : Edge → Arc
arc_of e = arc e.from.0 e.to.0

-- The processing order (SPEC 5.2), by `order` of rank. An edge that has a dead end does not count.
abbrev pub as_id : ℕ → NodeId
as_id i = record { 0 = i }

unfoldable pub processing_order : List Node → List Edge → List NodeId
processing_order nodes edges = map as_id (order (live_ids nodes) (map arc_of edges))

-- ---- a table whose ids rise is read whole
abbrev pub RisesFrom : ℕ → List Node → Type 0
RisesFrom least [] = Unit {0}
RisesFrom least (x ∷ l) = (least ≤ x.id.0) × RisesFrom (suc x.id.0) l

rising_all : (least : ℕ) (l : List Node) → RisesFrom least l → rising_from least l ≡ l
unfolding rising_from
rising_all least [] r = refl
rising_all least (x ∷ l) r = rw (le-leb _ _ r.0, rising_all (suc x.id.0) l r.1)

pub live_all : (nodes : List Node) → RisesFrom 0 nodes → live_nodes nodes ≡ nodes
unfolding live_nodes
live_all nodes r = rising_all 0 nodes r
