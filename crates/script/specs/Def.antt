-- "A definition is u8 how many nodes and the nodes, u8 how many edges and the edges, u8 how many parameters and the parameters, u8
-- output. Rows above 24, 48 and 8 are read and not kept, but counted" (docs/REPLAY.md).
use Rattle.std.specs.Prelude.{ℕ, ◌/◌, ◌%◌, ◌≡◌, List, eqb, take}
use Rattle.codec.specs.Field.{moved, little}
use Rattle.node.specs.Name.{name_of}
use Rattle.synthdef.specs.Tables.{node_rows, edge_rows, param_rows}
use Rattle.synthdef.specs.declared.def.DefNode.{DefNode}
use Rattle.synthdef.specs.declared.def.DefEdge.{DefEdge}
use Rattle.synthdef.specs.declared.def.Param.{Param}
use Rattle.synthdef.specs.declared.def.SynthDef.{SynthDef}
use Rattle.script.specs.Name.{name_at, name_end}
use Rattle.script.specs.Rows.{rows_at, rows_end}

-- "name kind, u8 ports, u8 required ports, u8 takes, u8 channels, u8 its first port named `in`, u8 `level`, u8 `amp`"
abbrev pub node_from : List ℕ → List ℕ → ℕ → DefNode
node_from kind s at =
    record {
      kind = name_of kind;
      ports = little 1 s at;
      required = little 1 s (moved at 1);
      takes_values = eqb (little 1 s (moved at 2) % 2) 1;
      takes_glides = eqb (little 1 s (moved at 2) / 2 % 2) 1;
      in_port = little 1 s (moved at 4);
      level_port = little 1 s (moved at 5);
      amp_port = little 1 s (moved at 6);
    }

abbrev pub node_at : List ℕ → ℕ → DefNode
node_at s at = node_from (name_at s at) s (name_end s at)

abbrev pub node_end : List ℕ → ℕ → ℕ
node_end s at = moved (name_end s at) 7

-- "u8 from, u8 to, u8 port"
abbrev pub edge_at : List ℕ → ℕ → DefEdge
edge_at s at = record { from = little 1 s at; to = little 1 s (moved at 1); port = little 1 s (moved at 2) }

abbrev pub edge_end : List ℕ → ℕ → ℕ
edge_end s at = moved at 3

-- "name, u8 node"
abbrev pub param_at : List ℕ → ℕ → Param
param_at s at = record { name = name_of (name_at s at); node = little 1 s (name_end s at) }

abbrev pub param_end : List ℕ → ℕ → ℕ
param_end s at = moved (name_end s at) 1

-- how many rows, and the rows: those that are kept, and the position after them all
abbrev pub table_at : {A : Type 0} → ℕ → (List ℕ → ℕ → A) → (List ℕ → ℕ → ℕ) → List ℕ → ℕ → List A
table_at cap read next s at = take cap (rows_at read next (little 1 s at) s (moved at 1))

abbrev pub table_end : (List ℕ → ℕ → ℕ) → List ℕ → ℕ → ℕ
table_end next s at = rows_end next (little 1 s at) s (moved at 1)

abbrev pub edges_from : List ℕ → ℕ → ℕ
edges_from s at = table_end node_end s at

abbrev pub params_from : List ℕ → ℕ → ℕ
params_from s at = table_end edge_end s (edges_from s at)

abbrev pub output_from : List ℕ → ℕ → ℕ
output_from s at = table_end param_end s (params_from s at)

abbrev pub def_end : List ℕ → ℕ → ℕ
def_end s at = moved (output_from s at) 1

-- a table that was read: its rows, its count and its end
pub record TableAt {A : Type 0} (cap : ℕ) (read : List ℕ → ℕ → A) (next : List ℕ → ℕ → ℕ) (s : List ℕ) (at : ℕ) (rows : List A) (count end : ℕ) : Type 0 where
  pub kept : rows ≡ table_at cap read next s at
  pub counted : count ≡ little 1 s at
  pub ended : end ≡ table_end next s at

-- the definition at `at`
pub record DefAt (s : List ℕ) (at : ℕ) (d : SynthDef) : Type 0 where
  pub nodes : node_rows d.nodes ≡ table_at 24 node_at node_end s at
  pub nodes_count : d.nodes.count ≡ little 1 s at
  pub edges : edge_rows d.edges ≡ table_at 48 edge_at edge_end s (edges_from s at)
  pub edges_count : d.edges.count ≡ little 1 s (edges_from s at)
  pub params : param_rows d.params ≡ table_at 8 param_at param_end s (params_from s at)
  pub params_count : d.params.count ≡ little 1 s (params_from s at)
  pub output : d.output ≡ little 1 s (output_from s at)
