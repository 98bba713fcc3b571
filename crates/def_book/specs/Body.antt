-- What the walk over a book's rows gathers.
use Rattle.std.specs.Prelude.{◌+◌, List, set}
use Rattle.synthdef.specs.declared.def.DefNode.{DefNode}
use Rattle.synthdef.specs.Tables.{DefNodes}
use Rattle.synthdef.specs.declared.def.DefEdge.{DefEdge}
use Rattle.synthdef.specs.Tables.{DefEdges}
use Rattle.synthdef.specs.declared.def.Param.{Param}
use Rattle.synthdef.specs.Tables.{Params}
use Rattle.def_book.specs.Bytes.{Row}
use Rattle.def_book.specs.Rows.{size, nodes_of, edges_of, params_of}
use Rattle.def_book.specs.Read.{node_table, edge_table, param_table}
use Rattle.def_book.specs.declared.body.Body.{Body}

-- a row stored at the count, and one more; past the capacity nothing is stored
abbrev pub more_nodes : DefNodes → DefNode → DefNodes
more_nodes t n = record { rows = set t.rows t.count n; count = t.count + 1 }

abbrev pub more_edges : DefEdges → DefEdge → DefEdges
more_edges t e = record { rows = set t.rows t.count e; count = t.count + 1 }

abbrev pub more_params : Params → Param → Params
more_params t p = record { rows = set t.rows t.count p; count = t.count + 1 }

-- the tables that rows fill, and the bytes that they take
abbrev pub body_of : List Row → Body
body_of rs = record { nodes = node_table (nodes_of rs); edges = edge_table (edges_of rs); params = param_table (params_of rs); end = size rs }
