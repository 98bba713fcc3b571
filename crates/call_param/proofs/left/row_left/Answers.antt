use borrow.Author.Rules.{rules}
use Rattle.words.proofs.FirstRow.{first_of}
use Rattle.voice.specs.Voice.{id}
use Rattle.call_param.specs.Left.{is_left}
use Rattle.graph_rows.specs.Node.{node_of}
use Rattle.call_param.proofs.left.row_left.Goals as goal

pub returns : goal.returns
returns c =
    let s = c.args in
    let q = is_left s.freed.now (id s.k) in
    let first = first_of 22 node_of q s.t.now s.count c.first_row.result _ c.first_row.ensures (λ t i b h. search rules) in
    first
