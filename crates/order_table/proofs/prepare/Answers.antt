use native.Mathlib.Omega.{arith}
use mathlib.Core.Path.{◌≡◌, sym, ◌∙◌}
use mathlib.Core.List.{map}
use lib.ListN.{length, take, length-take}
use borrow.Author.Rules.{rules}
use Rattle.rank.specs.Order.{whole}
use Rattle.prepare.specs.Live.{live_ids, arc_of}
use Rattle.prepare.specs.Required.{lacking}
use Rattle.prepare.proofs.Graph.{ids_rise}
use Rattle.graph_rows.specs.Node.{nodes_in}
use Rattle.graph_rows.specs.Edge.{edges_in}
use Rattle.order_table.proofs.Answers.{refused_13, refused_14, accepted, lacked, held, rows_fit, ordered_as}
use Rattle.order_table.proofs.prepare.Goals as goal
use Rattle.order_table.proofs.prepare.Goals.{After-lacks, After-ranking-r}

pub invariant_of-ids : goal.invariant_of-ids
invariant_of-ids c =
    let lv = c.live_ids-k.ensures in
    record { few = omega (arith, lv.few, length-take c.live_ids-k.result c.live_ids-k.new.ids); rising = ids_rise _ _ _ lv }

-- what the first test says of the nodes and the edges
lacking_is : (c : After-lacks) → lacking (take c.args.n (nodes_in c.args.nodes.now)) (take c.args.m (edges_in c.args.edges.now)) ≡ c.lacks.result
lacking_is c =
    let a = c.args in
    let words : length a.edges.now ≡ 3072 = search rules in
    sym (lacked a.nodes.now a.edges.now a.n a.m _ _ c.live_ids-k.ensures words _ c.min-count.ensures _ _ c.ends.ensures c.lacks.result c.lacks.ensures)

pub returns-then-lacks : goal.returns-then-lacks
returns-then-lacks c =
    let a = c.args in
    refused_13 (take a.n (nodes_in a.nodes.now)) (take a.m (edges_in a.edges.now)) a.order.now (lacking_is (goal.at.returns-then-lacks c).After-lacks ∙ c.if-lacks.true)

pub named-requires : goal.named-requires
named-requires c =
    let a = c.args in
    let words : length a.edges.now ≡ 3072 = search rules in
    rows_fit a.nodes.now a.edges.now a.n a.m _ _ c.live_ids-k.ensures words _ c.min-count.ensures _ _ c.ends.ensures c.ranking-r.result c.ranking-r.ensures

-- and what the second says
whole_is : (c : After-ranking-r) → whole (live_ids (take c.args.n (nodes_in c.args.nodes.now))) (map arc_of (take c.args.m (edges_in c.args.edges.now))) ≡ c.ranking-r.result.whole
whole_is c =
    let a = c.args in
    let words : length a.edges.now ≡ 3072 = search rules in
    sym (held a.nodes.now a.edges.now a.n a.m _ _ c.live_ids-k.ensures words _ c.min-count.ensures _ _ c.ends.ensures c.ranking-r.result c.ranking-r.ensures)

pub returns-then-not-r : goal.returns-then-not-r
returns-then-not-r c =
    let a = c.args in
    let p = goal.at.returns-then-not-r c in
    refused_14 (take a.n (nodes_in a.nodes.now)) (take a.m (edges_in a.edges.now)) a.order.now (lacking_is p.After-lacks ∙ c.if-lacks.false) (whole_is p.After-ranking-r ∙ c.if-not-r.true)

pub returns : goal.returns
returns c =
    let a = c.args in
    let r = c.ranking-r in
    let new = c.named.new.order in
    let p = goal.at.returns c in
    let words : length a.edges.now ≡ 3072 = search rules in
    accepted (take a.n (nodes_in a.nodes.now)) (take a.m (edges_in a.edges.now)) a.order.now (lacking_is p.After-lacks ∙ c.if-lacks.false) (whole_is p.After-ranking-r ∙ c.if-not-r.false) new r.result.rows.count
    (ordered_as a.nodes.now a.edges.now a.n a.m _ _ c.live_ids-k.ensures words _ c.min-count.ensures _ _ c.ends.ensures r.result r.ensures new c.named.ensures)
