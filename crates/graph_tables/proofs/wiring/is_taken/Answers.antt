use Rattle.std.proofs.Common.{take, [], ◌∙◌}
use Rattle.words.proofs.FirstRow.{some_placed}
use Rattle.edges.specs.Wiring.{ends_at}
use Rattle.graph_rows.specs.Edge.{edge_of, edges_in}
use Rattle.graph_tables.proofs.wiring.is_taken.Goals as goal

pub returns : goal.returns
returns c =
    let s = c.args in
    c.is_some.ensures ∙ some_placed (ends_at s.node s.port) (take s.count (edges_in s.edges.now)) (edge_of []) c.row_of.result c.row_of.ensures
