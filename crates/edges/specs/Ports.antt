-- What can be asked of the edges: the lowest port that nothing feeds (SPEC 9.6), the port that a source feeds
-- (SPEC 9.5, 14.2), and what feeds each port of a node (SPEC 14.1).
use Rattle.std.specs.Prelude.{ℕ, zero, suc, List, [], ◌∷◌, Bool, cond, ◌&&◌, eqb, Option, None, Some, find, option_map}
use Rattle.node.specs.declared.record.NodeId.{NodeId}
use Rattle.node.specs.declared.record.Edge.{Edge}
use Rattle.edges.specs.Wiring.{ends_at, taken}

-- the lowest of the k ports from p on without an edge
abbrev pub lowest : ℕ → List Edge → NodeId → ℕ → Option ℕ
lowest zero es n p = None
lowest (suc k) es n p = let r = lowest k es n (suc p) in cond (taken es n p) r (Some p)

-- the lowest port that nothing feeds, of a node that has this many ports (SPEC 9.6)
abbrev pub free_port : List Edge → NodeId → ℕ → Option ℕ
free_port es n ports = lowest ports es n 0

-- the edge leads from the node a to the node b
abbrev pub feeds : NodeId → NodeId → Edge → Bool
feeds a b e = eqb e.from.0 a.0 && eqb e.to.0 b.0

-- the port of the node b that the node a feeds: that of the first such edge, as `input_slot_from` has it
abbrev pub port_from : List Edge → NodeId → NodeId → Option ℕ
port_from es a b = option_map (λ e. e.port) (find (feeds a b) es)

-- what feeds the port p of the node n: the first edge there, as `resolve_inputs` has it
abbrev pub source_at : List Edge → NodeId → ℕ → Option NodeId
source_at es n p = option_map (λ e. e.from) (find (ends_at n p) es)

-- the sources of the k ports of the node n from p on
unfoldable pub sources_from : ℕ → List Edge → NodeId → ℕ → List (Option NodeId)
sources_from zero es n p = []
sources_from (suc k) es n p = (source_at es n p) ∷ sources_from k es n (suc p)

-- the table of source ids: port by port, the 64 that a node can have
abbrev pub sources : List Edge → NodeId → List (Option NodeId)
sources es n = sources_from 64 es n 0
