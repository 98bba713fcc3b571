-- The limits of a definition (SPEC 6.1), beyond which a spawn of it is refused with 9: its counts, its names, what its
-- nodes, edges, parameters and output refer to, and that its counted edges close no circle.
use Rattle.std.specs.Prelude.{ℕ, ◌^◌, ◌≤◌, ◌<◌, ◌≡◌, ◌⊎◌, List, map, Bool, ◌&&◌, ◌||◌, length, get_or, leb, ltb, eqb}
use Rattle.lists.specs.Member.{In}
use Rattle.node.specs.Name.{named}
use Rattle.rank.specs.Order.{Arc, arc, upto, whole}
use Rattle.rank.specs.Cycle.{Acyclic}
use Rattle.synthdef.specs.Rows.{every}
use Rattle.synthdef.specs.Tables.{node_rows, edge_rows, param_rows}
use Rattle.synthdef.specs.Edges.{counted}
use Rattle.synthdef.specs.declared.def.DefNode.{DefNode}
use Rattle.synthdef.specs.declared.def.DefEdge.{DefEdge}
use Rattle.synthdef.specs.declared.def.Param.{Param}
use Rattle.synthdef.specs.declared.def.SynthDef.{SynthDef}

-- a port given by name: none, or one of the node's ports
abbrev pub port_given : ℕ → ℕ → Bool
port_given ports p = eqb p 255 || ltb p ports

-- bit p of the required ports is worth 2 ^ p, so none stands at or past the ports
abbrev pub node_allowed : DefNode → Bool
node_allowed n =
    named n.kind && (leb n.ports 8 && (ltb n.required (2 ^ n.ports)
    && (port_given n.ports n.in_port && (port_given n.ports n.level_port && port_given n.ports n.amp_port))))

-- the ports of node i; a node that is not there has none
abbrev pub ports_at : List DefNode → ℕ → ℕ
ports_at ns i = get_or (map (λ n. n.ports) ns) i 0

abbrev pub edge_allowed : List DefNode → DefEdge → Bool
edge_allowed ns e = ltb e.from (length ns) && (ltb e.to (length ns) && ltb e.port (ports_at ns e.to))

abbrev pub param_allowed : ℕ → Param → Bool
param_allowed n p = named p.name && ltb p.node n

abbrev pub counts_allowed : ℕ → ℕ → ℕ → Bool
counts_allowed nodes edges params = leb 1 nodes && (leb nodes 24 && (leb edges 48 && leb params 8))

abbrev pub arc_of : DefEdge → Arc
arc_of e = arc e.from e.to

-- the counted edges among n nodes have no cycle: their processing order has all nodes
abbrev pub ordered : ℕ → List DefEdge → Bool
ordered n es = whole (upto n) (map arc_of (counted es))

abbrev pub allowed : SynthDef → Bool
allowed d =
    counts_allowed d.nodes.count d.edges.count d.params.count && (every node_allowed (node_rows d.nodes) && (every (edge_allowed (node_rows d.nodes)) (edge_rows d.edges)
    && (every (param_allowed (length (node_rows d.nodes))) (param_rows d.params) && (ltb d.output (length (node_rows d.nodes))
    && ordered (length (node_rows d.nodes)) (edge_rows d.edges)))))

-- ---- the same as statements (SPEC 6.1, 21.7). A definition is allowed exactly if it keeps them: `allowed_within` and
-- `within_allowed` of proofs/Within.antt.
pub record NodeWithin (n : DefNode) : Type 0 where
  pub kind : (1 ≤ n.kind.len) × (n.kind.len ≤ 16)
  pub ports : n.ports ≤ 8
  pub required : n.required < 2 ^ n.ports
  pub in_port : (n.in_port ≡ 255) ⊎ (n.in_port < n.ports)
  pub level_port : (n.level_port ≡ 255) ⊎ (n.level_port < n.ports)
  pub amp_port : (n.amp_port ≡ 255) ⊎ (n.amp_port < n.ports)

pub record EdgeWithin (ns : List DefNode) (e : DefEdge) : Type 0 where
  pub source : e.from < length ns
  pub target : e.to < length ns
  pub port : e.port < ports_at ns e.to

pub record ParamWithin (n : ℕ) (p : Param) : Type 0 where
  pub name : (1 ≤ p.name.len) × (p.name.len ≤ 16)
  pub node : p.node < n

pub record Within (d : SynthDef) : Type 0 where
  pub some_node : 1 ≤ d.nodes.count
  pub node_count : d.nodes.count ≤ 24
  pub edge_count : d.edges.count ≤ 48
  pub param_count : d.params.count ≤ 8
  pub each_node : (n : DefNode) → In n (node_rows d.nodes) → NodeWithin n
  pub each_edge : (e : DefEdge) → In e (edge_rows d.edges) → EdgeWithin (node_rows d.nodes) e
  pub each_param : (p : Param) → In p (param_rows d.params) → ParamWithin (length (node_rows d.nodes)) p
  pub output : d.output < length (node_rows d.nodes)
  pub no_cycle : Acyclic (upto (length (node_rows d.nodes))) (map arc_of (counted (edge_rows d.edges)))
