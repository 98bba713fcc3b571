-- What a definition may be, number by number: SPEC 6.1, and SPEC 6.2 on which edges count. That the store accepts exactly these: `limits` of
-- proofs/Definition.antt.
use Rattle.std.specs.Prelude.{ℕ, ◌^◌, ◌≤◌, ◌<◌, ◌≡◌, ◌⊎◌, ◌↔◌, List, ◌∷◌, ◌++◌, true, length, slice_get, Some}
use Rattle.lists.specs.Member.{In}
use Rattle.node.specs.declared.name.Name.{Name}
use Rattle.synthdef.specs.Limits.{allowed}
use Rattle.synthdef.specs.Tables.{node_rows, edge_rows, param_rows}
use Rattle.synthdef.specs.declared.def.DefNode.{DefNode}
use Rattle.synthdef.specs.declared.def.DefEdge.{DefEdge}
use Rattle.synthdef.specs.declared.def.Param.{Param}
use Rattle.synthdef.specs.declared.def.SynthDef.{SynthDef}

-- a name has 1 to 16 bytes
pub record NameLimits (n : Name) : Type 0 where
  pub some : 1 ≤ n.len
  pub most : n.len ≤ 16

-- a port given by name: 255 where the node has none of that name, else one of its ports
abbrev pub PortGiven : ℕ → ℕ → Type 0
PortGiven ports p = (p ≡ 255) ⊎ (p < ports)

pub record NodeLimits (n : DefNode) : Type 0 where
  pub kind : NameLimits n.kind
  pub ports : n.ports ≤ 8
  -- bit p of the number stands for port p: below 2 ^ ports it names ports of the node alone
  pub required : n.required < 2 ^ n.ports
  pub in_port : PortGiven n.ports n.in_port
  pub level_port : PortGiven n.ports n.level_port
  pub amp_port : PortGiven n.ports n.amp_port

-- an edge goes from a node that is there to a port that its target has
pub record EdgeLimits (ns : List DefNode) (e : DefEdge) : Type 0 where
  pub source : e.from < length ns
  pub target : DefNode
  pub there : slice_get ns e.to ≡ Some target
  pub port : e.port < target.ports

-- a parameter goes to a node that is there
pub record ParamLimits (nodes : ℕ) (p : Param) : Type 0 where
  pub name : NameLimits p.name
  pub node : p.node < nodes

-- the edge e counts: no later edge of the definition goes to its port
pub record Counts (es : List DefEdge) (e : DefEdge) : Type 0 where
  pub earlier : List DefEdge
  pub later : List DefEdge
  pub split : es ≡ earlier ++ (e ∷ later)
  pub last : (f : DefEdge) → In f later → f.to ≡ e.to → f.port ≡ e.port → ⊥

-- a way from node a to node b along edges that count, one or more
pub data Way (es : List DefEdge) : ℕ → ℕ → Type 0 where
  along : {a b : ℕ} (e : DefEdge) → Counts es e → e.from ≡ a → e.to ≡ b → Way es a b
  then : {a b c : ℕ} → Way es a b → Way es b c → Way es a c

pub record Limits (d : SynthDef) : Type 0 where
  pub some_node : 1 ≤ d.nodes.count
  pub most_nodes : d.nodes.count ≤ 24
  pub most_edges : d.edges.count ≤ 48
  pub most_params : d.params.count ≤ 8
  pub each_node : (n : DefNode) → In n (node_rows d.nodes) → NodeLimits n
  pub each_edge : (e : DefEdge) → In e (edge_rows d.edges) → EdgeLimits (node_rows d.nodes) e
  pub each_param : (p : Param) → In p (param_rows d.params) → ParamLimits (length (node_rows d.nodes)) p
  -- the node that the voice sounds through is there
  pub output : d.output < length (node_rows d.nodes)
  -- no way comes back to the node where it began
  pub no_cycle : (i : ℕ) → Way (edge_rows d.edges) i i → ⊥

-- the store's test says yes exactly of these
pub record IsWithin (d : SynthDef) : Type 0 where
  pub yes : (allowed d ≡ true) ↔ Limits d
