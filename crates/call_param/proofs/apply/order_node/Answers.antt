use mathlib.Core.Path.{refl, sym, ◌∙◌}
use mathlib.Core.List.{[]}
use lib.ListN.{get_or}
use Rattle.model.specs.Order.{with_last}
use Rattle.graph_rows.specs.Node.{node_of, nodes_in}
use Rattle.call_param.proofs.Replacing.{still_first, all_replaced}
use Rattle.call_param.proofs.Whole.{node_lost, node_off, node_on}
use Rattle.call_param.proofs.apply.order_node.Goals as goal

pub returns-in_default : goal.returns-in_default
returns-in_default c =
    let s = c.args in
    node_lost s.freed.now s.t.now s.count s.k s.o (sym c.row_left.ensures ∙ c.in_default.is)

pub returns-then-not-takes_at : goal.returns-then-not-takes_at
returns-then-not-takes_at c =
    let s = c.args in
    node_off s.freed.now s.t.now s.count s.k s.o c.in-Some.p (sym c.row_left.ensures ∙ c.in-Some.is) (sym c.takes_at.ensures ∙ c.if-not-takes_at.true)

pub returns : goal.returns
returns c =
    let s = c.args in
    let p = c.in-Some.p in
    let put = c.put_last in
    let copied = c.copy_on in
    let found = sym c.row_left.ensures ∙ c.in-Some.is in
    let new = with_last s.o (get_or (nodes_in s.t.now) p (node_of [])) in
    let first = still_first s.freed.now s.t.now s.count s.k p found new refl refl put.new.t put.ensures in
    let all = all_replaced s.freed.now s.t.now s.count s.k p found new refl refl put.new.t put.ensures copied.new.t (copied.ensures first) in
    node_on s.freed.now s.t.now s.count s.k s.o p found (sym c.takes_at.ensures ∙ c.if-not-takes_at.false) copied.new.t all
