-- The edges of the graph as a list, in the order in which they were put (SPEC 1): connecting (SPEC 4.3), disconnecting
-- (SPEC 4.4), and what goes with a node (SPEC 4.2).
use Rattle.std.specs.Prelude.{ℕ, List, [], ◌∷◌, ◌++◌, Bool, not, cond, ◌&&◌, ◌||◌, eqb, leb, ltb, length, filter, find, is_some}
use Rattle.node.specs.declared.record.NodeId.{NodeId}
use Rattle.node.specs.declared.record.Edge.{Edge}

-- so many edges at most (SPEC 2)
abbrev pub edge_limit : ℕ
edge_limit = 1024

-- the edge ends at the node n
abbrev pub ends_on : NodeId → Edge → Bool
ends_on n e = eqb e.to.0 n.0

-- the edge ends at the port p of the node n
abbrev pub ends_at : NodeId → ℕ → Edge → Bool
ends_at n p e = ends_on n e && eqb e.port p

-- an edge ends at the port p of the node n
abbrev pub taken : List Edge → NodeId → ℕ → Bool
taken es n p = is_some (find (ends_at n p) es)

-- disconnecting: the edge at that port is removed
abbrev pub drop_at : List Edge → NodeId → ℕ → List Edge
drop_at es n p = filter (λ e. not (ends_at n p e)) es

-- connecting: the edge at that port goes, and the new one is put last (SPEC 4.3)
abbrev pub wired : List Edge → Edge → List Edge
wired es e = drop_at es e.to e.port ++ (e ∷ [])

-- the edge finds no place, which one that replaces another does not need
abbrev pub no_place : List Edge → NodeId → ℕ → Bool
no_place es n p = leb edge_limit (length es) && not (taken es n p)

-- connecting in a table that may be full
abbrev pub put : List Edge → Edge → List Edge
put es e = cond (no_place es e.to e.port) es (wired es e)

-- one row more, if there is a place
abbrev pub pushed : {A : Type 0} → ℕ → List A → A → List A
pushed limit l x = cond (ltb (length l) limit) (l ++ (x ∷ [])) l

-- the number is one of these
abbrev pub listed : List ℕ → ℕ → Bool
listed ids x = is_some (find (λ k. eqb k x) ids)

-- the node is among these ids
abbrev pub among : List ℕ → NodeId → Bool
among ids n = listed ids n.0

-- the edge starts or ends at one of these ids
abbrev pub touches : List ℕ → Edge → Bool
touches ids e = among ids e.from || among ids e.to

-- with nodes go the edges that touch them
abbrev pub drop_touching : List Edge → List ℕ → List Edge
drop_touching es ids = filter (λ e. not (touches ids e)) es
