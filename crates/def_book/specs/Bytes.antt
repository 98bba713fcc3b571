-- A definition's rows as the records of a book (SPEC 16): whole length and kind, in two bytes each, the low byte first,
-- then the fields of its kind, a byte each.
use Rattle.std.specs.Prelude.{ℕ, ◌/◌, ◌%◌, List, [], ◌∷◌, ◌++◌, map, Bool, true, false, length}
use Rattle.node.specs.Name.{text}
use Rattle.node.specs.declared.name.Name.{Name}
use Rattle.synthdef.specs.Tables.{node_rows, edge_rows, param_rows}
use Rattle.synthdef.specs.declared.def.DefNode.{DefNode}
use Rattle.synthdef.specs.declared.def.DefEdge.{DefEdge}
use Rattle.synthdef.specs.declared.def.Param.{Param}
use Rattle.synthdef.specs.declared.def.SynthDef.{SynthDef}
use Rattle.def_book.specs.Held.{held}

-- what stands behind the heading, the sorts mixed in any way
pub data Row : Type 0 where
  node : DefNode → Row
  edge : DefEdge → Row
  param : Param → Row

-- the length of the whole record
abbrev pub long : Row → ℕ
long (node n) = 27
long (edge e) = 7
long (param p) = 22

-- a number in two bytes, the lower first
abbrev pub pair : ℕ → List ℕ
pair n = n % 256 ∷ n / 256 ∷ []

-- length, kind, fields
abbrev pub record_bytes : ℕ → ℕ → List ℕ → List ℕ
record_bytes kind size payload = pair size ++ (pair kind ++ payload)

-- a name: its length, then 16 bytes, zero behind the length
abbrev pub name_bytes : Name → List ℕ
name_bytes n = n.len ∷ held 16 0 (text n)

-- 1 for values and 2 for glides, added up
abbrev pub sorts_of : Bool → Bool → ℕ
sorts_of false false = 0
sorts_of true false = 1
sorts_of false true = 2
sorts_of true true = 3

abbrev pub heading_bytes : ℕ → ℕ → List ℕ
heading_bytes count output = record_bytes 1 6 (count ∷ output ∷ [])

abbrev pub node_bytes : DefNode → List ℕ
node_bytes n =
    record_bytes 2 27
    (name_bytes n.kind
    ++ (n.ports ∷ n.required ∷ sorts_of n.takes_values n.takes_glides ∷ n.in_port ∷ n.level_port ∷ n.amp_port ∷ []))

abbrev pub edge_bytes : DefEdge → List ℕ
edge_bytes e = record_bytes 3 7 (e.from ∷ e.to ∷ e.port ∷ [])

abbrev pub param_bytes : Param → List ℕ
param_bytes p = record_bytes 4 22 (name_bytes p.name ++ (p.node ∷ []))

abbrev pub row_bytes : Row → List ℕ
row_bytes (node n) = node_bytes n
row_bytes (edge e) = edge_bytes e
row_bytes (param p) = param_bytes p

-- one after the other
unfoldable pub joined : List (List ℕ) → List ℕ
joined [] = []
joined (r ∷ rs) = r ++ joined rs

-- the rows as the writer puts them: nodes, then edges, then parameters
abbrev pub rows_in : SynthDef → List Row
rows_in d = map node (node_rows d.nodes) ++ (map edge (edge_rows d.edges) ++ map param (param_rows d.params))

-- the book that the writer makes of a definition, the heading first
abbrev pub book_of : SynthDef → List ℕ
book_of d = heading_bytes (length (node_rows d.nodes)) d.output ++ joined (map row_bytes (rows_in d))
