-- The tables of a definition, of 24 nodes, 48 edges and 8 parameters (SPEC 6). A count above the capacity is the
-- capacity.
use Rattle.std.specs.Prelude.{◌-◌, List, [], ◌++◌, false, length, replicate}
use Rattle.lists.specs.Table.{rows_of}
use Rattle.lists.specs.declared.rows.Table.{Table}
use Rattle.node.specs.declared.name.Name.{Name}
use Rattle.synthdef.specs.declared.def.DefNode.{DefNode}
use Rattle.synthdef.specs.declared.def.DefEdge.{DefEdge}
use Rattle.synthdef.specs.declared.def.Param.{Param}

abbrev pub DefNodes : Type 0
DefNodes = Table DefNode 24

abbrev pub DefEdges : Type 0
DefEdges = Table DefEdge 48

abbrev pub Params : Type 0
Params = Table Param 8

-- the rows that count
abbrev pub node_rows : DefNodes → List DefNode
node_rows t = rows_of 24 t.count t.rows

abbrev pub edge_rows : DefEdges → List DefEdge
edge_rows t = rows_of 48 t.count t.rows

abbrev pub param_rows : Params → List Param
param_rows t = rows_of 8 t.count t.rows

-- a table that holds these rows and nothing past them
abbrev pub no_edge : DefEdge
no_edge = record { from = 0; to = 0; port = 0 }

abbrev pub edge_table : List DefEdge → DefEdges
edge_table l = record { rows = l ++ replicate (48 - length l) no_edge; count = length l }

-- what is read past a table's rows
abbrev pub no_name : Name
no_name = record { bytes = []; len = 0 }

-- a node of that kind, and nothing else of it
abbrev pub bare_node : Name → DefNode
bare_node kind =
    record {
      kind = kind;
      ports = 0;
      required = 0;
      takes_values = false;
      takes_glides = false;
      in_port = 0;
      level_port = 0;
      amp_port = 0;
    }

abbrev pub no_node : DefNode
no_node = bare_node no_name

abbrev pub no_param : Param
no_param = record { name = no_name; node = 0 }
