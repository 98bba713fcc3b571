use borrow.Author.Rules.{rules}
use Rattle.words.proofs.FirstRow.{first_of, row_found}
use Rattle.graph.specs.Node.{is_node}
use Rattle.graph_rows.specs.Node.{node_of}
use Rattle.graph_tables.proofs.lookup.row_of.Goals as goal

pub returns : goal.returns
returns c =
    let s = c.args in
    let q = is_node s.id in
    let first = first_of 22 node_of q s.nodes.now s.count c.first_row.result _ c.first_row.ensures (λ t i b h. search rules) in
    row_found 22 node_of q s.nodes.now s.count c.first_row.result first
