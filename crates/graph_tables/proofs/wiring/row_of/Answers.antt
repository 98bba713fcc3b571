use borrow.Author.Rules.{rules}
use Rattle.words.proofs.FirstRow.{first_of}
use Rattle.edges.specs.Wiring.{ends_at}
use Rattle.graph_rows.specs.Edge.{edge_of}
use Rattle.graph_tables.proofs.wiring.row_of.Goals as goal

pub returns : goal.returns
returns c =
    let s = c.args in
    let q = ends_at s.node s.port in
    let first = first_of 3 edge_of q s.edges.now s.count c.first_row.result _ c.first_row.ensures (λ t i b h. search rules) in
    first
