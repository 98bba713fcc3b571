use Rattle.std.proofs.Common.{◌+◌, ◌-◌, ◌≤◌, ◌≡◌, [], false, length, refl, ◌∙◌, arith, rules, tests}
use lib.Ieee.{nan}
use Rattle.std.proofs.lemmas.Iterator.{YieldsList-from_range}
use Rattle.std.proofs.lemmas.Iterator.Search.{any_from_yields_List}
use Rattle.node.specs.declared.record.Node.{Node}
use Rattle.node.specs.declared.order.LastOrder.TheVariants as LastOrder
use Rattle.graph.proofs.Sorting.{lacks, lacks_from}
use Rattle.graph.proofs.topological_sort.row_lacks.Goals as goal

abbrev blank : Node
blank =
    record {
      id = record { 0 = 0 };
      owner = record { 0 = 0 };
      kind = record { bytes = []; len = 0 };
      ports = 0;
      required = 0;
      takes_values = false;
      takes_glides = false;
      done = false;
      level = nan;
      last = LastOrder.Nothing;
      noise = 0;
    }

pub returns : goal.returns
returns c =
    let s = c.args in
    let n = length s.nodes.now in
    let long : length s.fed.now ≡ 512 = search rules in
    let few : n ≤ length s.fed.now = omega (arith, c.requires, long) in
    let all : n - 0 ≡ n = omega arith in
    let start : 0 + n ≡ n = omega arith in
    any_from_yields_List (lacks s.fed.now s.nodes.now few blank) _ _ c.any.result c.any.ensures.ran (YieldsList-from_range 0 n n refl all) (λ x b q h. (search rules, search (rules, tests)))
    ∙ lacks_from s.fed.now s.nodes.now few blank n 0 start
