-- A cycle among live nodes (SPEC 5.3): a closed walk over their arcs. And what an order of all nodes is
-- (SPEC 5.2, 21.7).
use Rattle.std.specs.Prelude.{ℕ, List, [], ◌∷◌, false, ◌≡◌, ◌⊎◌}
use Rattle.lists.specs.Member.{In}
use Rattle.rank.specs.Order.{Arc, among}

-- a walk along arcs between nodes, of one arc or more
pub data Walk (nodes : List ℕ) (arcs : List Arc) : ℕ → ℕ → Type 0 where
  step : {u v : ℕ} (e : Arc) → In e arcs → In e.from nodes → In e.to nodes → e.from ≡ u → e.to ≡ v → Walk nodes arcs u v
  then : {u v w : ℕ} → Walk nodes arcs u v → Walk nodes arcs v w → Walk nodes arcs u w

-- a walk that comes back to where it began
pub record Cyclic (nodes : List ℕ) (arcs : List Arc) : Type 0 where
  pub at : ℕ
  pub back : Walk nodes arcs at at

abbrev pub Acyclic : List ℕ → List Arc → Type 0
Acyclic nodes arcs = Cyclic nodes arcs → ⊥

-- no node is there twice
abbrev pub Distinct : List ℕ → Type 0
Distinct [] = Unit {0}
Distinct (x ∷ l) = (among x l ≡ false) × Distinct l

-- x stands in the list, and y after it
abbrev pub Before : ℕ → ℕ → List ℕ → Type 0
Before x y [] = ⊥
Before x y (z ∷ l) = (x ≡ z × In y l) ⊎ Before x y l

-- the list has every node once, and each arc's source before its target
pub record Sorted (nodes : List ℕ) (arcs : List Arc) (l : List ℕ) : Type 0 where
  pub every : (x : ℕ) → In x nodes → In x l
  pub only : (x : ℕ) → In x l → In x nodes
  pub once : Distinct l
  pub sources_first : (e : Arc) → In e arcs → In e.from nodes → In e.to nodes → Before e.from e.to l
