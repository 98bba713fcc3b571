use Prim.Native.Nat.{◌-◌, ◌/◌, min}
use native.Mathlib.Omega.{arith}
use mathlib.Core.Path.{◌≡◌, refl, sym, ap, ◌∙◌, subst}
use mathlib.Core.List.{[]}
use lib.Dec.{eqb}
use lib.ListN.{length, get_or, get_or-replicate}
use borrow.Author.Rules.{rules}
use borrow.Author.Tests.{eqb-true}
use Rattle.node.specs.declared.record.NodeId.{NodeId}
use Rattle.node.specs.declared.record.Edge.{Edge}
use Rattle.edges.specs.Ports.{source_at}
use Rattle.edges.proofs.Search.{Says, says_hit, says_all}
use Rattle.graph_rows.specs.Edge.{edge_of, edges_in}
use Rattle.graph_tables.proofs.Backwards.{Precedes, none_passed, next_edge, all_passed}
use Rattle.graph_tables.proofs.Room.{edges_counted}
use Rattle.graph_tables.proofs.ports.sources_of.Goals as goal
use Rattle.graph_tables.proofs.ports.sources_of.Goals.{After-min-n}

counted : (c : After-min-n) → c.min-n.result ≡ min c.args.count (length c.args.edges.now / 3)
counted c = edges_counted c.args.edges.now c.args.count c.min-n.result (search rules) c.min-n.ensures

pub loop-i-init : goal.loop-i-init
loop-i-init c =
    let s = c.args in
    (refl, λ p h. get_or-replicate 64 p _ _ h ∙ ap (λ es. source_at es s.node p) (sym (none_passed s.edges.now s.count _ (counted (goal.at.loop-i-init c).After-min-n))))

pub loop-i-preserved-then-e-lt64 : goal.loop-i-preserved-then-e-lt64
loop-i-preserved-then-e-lt64 c =
    let l = c.loop-i in
    let t = c.args.edges.now in
    let n = c.min-n.result in
    -- the row that is looked at stands before those that were passed, and it is the edge that was read
    let row : Precedes t n l.i (get_or (edges_in t) (l.i - 1) (edge_of [])) = next_edge t c.args.count n (counted (goal.at.loop-i-preserved-then-e-lt64 c).After-min-n) l.i c.loop-i-test.true l.auto.i in
    let read : Precedes t n l.i c.edge_at-e.result = subst (Precedes t n l.i) (sym c.edge_at-e.ensures) row in
    let there : (get_or (edges_in t) (l.i - 1) (edge_of [])).to.0 ≡ c.args.node.0 = eqb-true _ _ (ap (λ (k : NodeId). eqb k.0 c.args.node.0) (sym c.to_at.ensures) ∙ sym c.eq.ensures ∙ c.if-eq.true) in
    let ends = ap (λ (x : Edge). x.to.0) c.edge_at-e.ensures ∙ there in
    says_hit l.table c.edge_at-e.result _ c.args.node _ read l.invariant ends c.if-e-lt64.true

pub returns : goal.returns
returns c =
    let s = c.args in
    let l = c.loop-i in
    let all = all_passed s.edges.now s.count _ (counted (goal.at.returns c).After-min-n) l.i (omega arith) in
    says_all l.table _ s.node (subst (λ es. Says l.table es s.node) all l.invariant)
