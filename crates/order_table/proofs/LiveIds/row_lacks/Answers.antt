use Rattle.std.proofs.Common.{◌+◌, ◌-◌, ◌≤◌, ◌≡◌, length, refl, ◌∙◌, arith, rules, tests}
use Rattle.std.proofs.lemmas.Iterator.{YieldsList-from_range}
use Rattle.std.proofs.lemmas.Iterator.Search.{any_from_yields_List}
use Rattle.words.proofs.Rows.{rows_long}
use Rattle.graph_rows.specs.Node.{node_of, nodes_in}
use Rattle.order_table.proofs.Lacking.{lacks, lacks_from}
use Rattle.order_table.proofs.LiveIds.row_lacks.Goals as goal

pub returns : goal.returns
returns c =
    let s = c.args in
    let n = length s.self.now.rows.now in
    let long : length s.masks.now ≡ 512 = search rules in
    let words : length s.nodes.now ≡ 11264 = search rules in
    let few : n ≤ length s.masks.now = omega (arith, s.self.now.few, long) in
    let top : n ≤ length (nodes_in s.nodes.now) = omega (arith, s.self.now.few, rows_long 22 node_of s.nodes.now, words) in
    let all : n - 0 ≡ n = omega arith in
    let start : 0 + n ≡ n = omega arith in
    any_from_yields_List (lacks s.masks.now s.nodes.now n few top) _ _ c.any.result c.any.ensures.ran (YieldsList-from_range 0 n n refl all) (λ x b q h. (search rules, search (rules, tests)))
    ∙ lacks_from s.masks.now s.nodes.now n few top n 0 start
