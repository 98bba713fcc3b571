use borrow.Author.Rules.{rules}
use Rattle.words.proofs.FirstRow.{first_of}
use Rattle.event_table.specs.Key.{replaces_by}
use Rattle.event_table.specs.Rows.{event_of}
use Rattle.event_table.proofs.replace.row_replaced.Goals as goal

pub returns : goal.returns
returns c =
    let s = c.args in
    let q = replaces_by s.k.now in
    let first = first_of 15 event_of q s.t.now s.count c.first_row.result _ c.first_row.ensures (λ t i b h. search rules) in
    first
