use borrow.Author.Rules.{rules}
use Rattle.words.proofs.FirstRow.{first_of, row_found}
use Rattle.edges.specs.Ports.{feeds}
use Rattle.graph_tables.specs.FedPorts.{node}
use Rattle.graph_rows.specs.Edge.{edge_of}
use Rattle.graph_tables.proofs.ports.feeding_row.Goals as goal

pub returns : goal.returns
returns c =
    let s = c.args in
    let q = feeds (node s.from) s.to in
    let first = first_of 3 edge_of q s.edges.now s.count c.first_row.result _ c.first_row.ensures (λ t i b h. search rules) in
    row_found 3 edge_of q s.edges.now s.count c.first_row.result first
