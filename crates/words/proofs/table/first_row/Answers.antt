use mathlib.Core.Bool.{true, false}
use mathlib.Core.Path.{sym}
use borrow.Author.Rules.{rules}
use borrow.Author.Tests.{tests}
use Rattle.words.proofs.FirstRow.{is_first, first_place}
use Rattle.words.proofs.table.first_row.Goals as goal

pub returns : goal.returns
returns g c q tells =
    let s = c.args in
    let n = c.row_count.result in
    let told = is_first s.w (λ ws. ws) q s.t.now n _ _ c.find.result c.find.ensures.ran (λ x p h. sym (tells s.t x true (search (rules, tests)))) (λ x p h. (search rules, sym (tells s.t x false (search (rules, tests))))) in
    first_place s.w (λ ws. ws) q s.t.now n s.count c.row_count.ensures c.find.result told
