-- An edge in 3 words, and the edge table that a list of words is.
use Rattle.std.specs.Prelude.{ℕ, List, get_or}
use Rattle.node.specs.declared.record.Edge.{Edge}
use Rattle.words.specs.Rows.{rows}

-- source, target, port
unfoldable pub edge_of : List ℕ → Edge
edge_of ws = record { from = record { 0 = get_or ws 0 0 }; to = record { 0 = get_or ws 1 0 }; port = get_or ws 2 0 }

-- the edges that the words have room for
abbrev pub edges_in : List ℕ → List Edge
edges_in c = rows 3 edge_of c
