-- The records of a book, read from its bytes, and what makes one malformed, which is 18 (SPEC 16).
use Rattle.std.specs.Prelude.{ℕ, zero, suc, ◌+◌, ◌*◌, ◌-◌, ◌%◌, List, [], ◌∷◌, Bool, ◌&&◌, cond, leb, eqb, length, drop, get_or, Option, None, Some}
use Rattle.node.specs.Name.{named}
use Rattle.node.specs.declared.name.Name.{Name}
use Rattle.synthdef.specs.Rows.{every}
use Rattle.synthdef.specs.declared.def.DefNode.{DefNode}
use Rattle.synthdef.specs.declared.def.DefEdge.{DefEdge}
use Rattle.synthdef.specs.declared.def.Param.{Param}
use Rattle.def_book.specs.Held.{held}
use Rattle.def_book.specs.Bytes.{Row, node, edge, param, long}

-- bytes i and i + 1 as one number, the lower first
abbrev pub pair_at : List ℕ → ℕ → ℕ
pair_at s i = get_or s i 0 + 256 * get_or s (i + 1) 0

-- the bytes begin with a record of this kind and size: its length is the kind's, and the bytes do not end inside it
abbrev pub is_record : ℕ → ℕ → List ℕ → Bool
is_record kind size s = eqb (pair_at s 0) size && (eqb (pair_at s 2) kind && leb size (length s))

abbrev pub is_zero : ℕ → Bool
is_zero b = eqb b 0

-- the name in a node's or a parameter's record: its length, then 16 bytes
abbrev pub name_at : List ℕ → Name
name_at s = record { bytes = held 16 0 (drop 5 s); len = get_or s 4 0 }

-- a name of 1 to 16 bytes, with zeros behind its length
abbrev pub name_fits : Name → Bool
name_fits n = named n && every is_zero (drop n.len n.bytes)

abbrev pub is_heading : List ℕ → Bool
is_heading s = is_record 1 6 s

abbrev pub is_node : List ℕ → Bool
is_node s = is_record 2 27 s && (name_fits (name_at s) && leb (get_or s 23 0) 3)

abbrev pub is_edge : List ℕ → Bool
is_edge s = is_record 3 7 s

abbrev pub is_param : List ℕ → Bool
is_param s = is_record 4 22 s && name_fits (name_at s)

-- the sorts of orders: 1 for values and 2 for glides, added up
abbrev pub node_called : Name → List ℕ → DefNode
node_called name s =
    record {
      kind = name;
      ports = get_or s 21 0;
      required = get_or s 22 0;
      takes_values = eqb (get_or s 23 0 % 2) 1;
      takes_glides = leb 2 (get_or s 23 0);
      in_port = get_or s 24 0;
      level_port = get_or s 25 0;
      amp_port = get_or s 26 0;
    }

abbrev pub node_at : List ℕ → DefNode
node_at s = node_called (name_at s) s

abbrev pub edge_at : List ℕ → DefEdge
edge_at s = record { from = get_or s 4 0; to = get_or s 5 0; port = get_or s 6 0 }

abbrev pub param_at : List ℕ → Param
param_at s = record { name = name_at s; node = get_or s 21 0 }

-- the row at the front of the bytes, or none: also a heading is no row, so that a repeated one is malformed
unfoldable pub row_at : List ℕ → Option Row
row_at s = cond (is_node s) (Some (node (node_at s))) (cond (is_edge s) (Some (edge (edge_at s))) (cond (is_param s) (Some (param (param_at s))) None))

-- a row, and what comes k bytes behind its first; nothing where there is no row
abbrev pub follow : Option Row → (ℕ → List Row) → List Row
follow None next = []
follow (Some r) next = r ∷ next (long r - 1)

-- the rows after the first k bytes, up to where there is none
unfoldable pub rows_after : List ℕ → ℕ → List Row
rows_after [] k = []
rows_after (b ∷ s) (suc k) = rows_after s k
rows_after (b ∷ s) zero = follow (row_at (b ∷ s)) (rows_after s)

abbrev pub rows : List ℕ → List Row
rows s = rows_after s 0

-- the bytes that rows take
unfoldable pub size : List Row → ℕ
size [] = 0
size (r ∷ rs) = long r + size rs

-- ---- the rows of one sort, in their own order
abbrev pub more : {A : Type 0} → Option A → List A → List A
more None l = l
more (Some x) l = x ∷ l

-- what the rows of one sort hold, in their order
unfoldable pub gather : {A : Type 0} → (Row → Option A) → List Row → List A
gather f [] = []
gather f (r ∷ rs) = more (f r) (gather f rs)

abbrev pub as_node : Row → Option DefNode
as_node (node n) = Some n
as_node (edge e) = None
as_node (param p) = None

abbrev pub as_edge : Row → Option DefEdge
as_edge (node n) = None
as_edge (edge e) = Some e
as_edge (param p) = None

abbrev pub as_param : Row → Option Param
as_param (node n) = None
as_param (edge e) = None
as_param (param p) = Some p

abbrev pub nodes_of : List Row → List DefNode
nodes_of rs = gather as_node rs

abbrev pub edges_of : List Row → List DefEdge
edges_of rs = gather as_edge rs

abbrev pub params_of : List Row → List Param
params_of rs = gather as_param rs
