use Prim.Native.Nat.{◌-◌, ◌/◌, min}
use native.Mathlib.Omega.{arith}
use mathlib.Core.Path.{◌≡◌, sym, ap, ◌∙◌, subst}
use mathlib.Core.List.{[]}
use mathlib.Core.Bool.{false, true}
use lib.Dec.{eqb}
use lib.ListN.{length, take, drop, get_or, set, replicate}
use borrow.Author.Rules.{rules}
use borrow.Author.Tests.{eqb-true}
use Rattle.node.specs.declared.record.NodeId.{NodeId}
use Rattle.graph_rows.specs.Edge.{edge_of, edges_in}
use Rattle.graph_tables.specs.FedPorts.{FedPorts}
use Rattle.graph_tables.proofs.Backwards.{Precedes, none_passed, next_edge, all_passed}
use Rattle.graph_tables.proofs.FedPorts.{fed_start, fed_mark}
use Rattle.graph_tables.proofs.Room.{edges_counted}
use Rattle.graph_tables.proofs.ports.fed_ports.Goals as goal
use Rattle.graph_tables.proofs.ports.fed_ports.Goals.{After-min-n}

counted : (c : After-min-n) → c.min-n.result ≡ min c.args.count (length c.args.edges.now / 3)
counted c = edges_counted c.args.edges.now c.args.count c.min-n.result (search rules) c.min-n.ensures

pub loop-i-init : goal.loop-i-init
loop-i-init c =
    let s = c.args in
    subst (λ es. FedPorts (replicate 65 false) es s.node) (sym (none_passed s.edges.now s.count _ (counted (goal.at.loop-i-init c).After-min-n))) (fed_start s.node)

pub loop-i-preserved-then-eq : goal.loop-i-preserved-then-eq
loop-i-preserved-then-eq c =
    let l = c.loop-i in
    let t = c.args.edges.now in
    let n = c.min-n.result in
    let es = take n (edges_in t) in
    let e = get_or (edges_in t) (l.i - 1) (edge_of []) in
    -- the row that is looked at stands before those that were passed
    let row : Precedes t n l.i e = next_edge t c.args.count n (counted (goal.at.loop-i-preserved-then-eq c).After-min-n) l.i c.loop-i-test.true l.auto.i in
    let place : min e.port 64 ≡ c.min.result = sym (c.min.ensures ∙ ap (λ p. min p 64) c.port_at.ensures) in
    let ends : e.to.0 ≡ c.args.node.0 = eqb-true _ _ (ap (λ (k : NodeId). eqb k.0 c.args.node.0) (sym c.to_at.ensures) ∙ sym c.eq.ensures ∙ c.if-eq.true) in
    subst (λ p. FedPorts (set l.fed p true) (drop (l.i - 1) es) c.args.node) place (fed_mark l.fed e (drop l.i es) c.args.node (drop (l.i - 1) es) row l.invariant ends)

pub returns : goal.returns
returns c =
    let s = c.args in
    let l = c.loop-i in
    subst (λ es. FedPorts l.fed es s.node) (all_passed s.edges.now s.count _ (counted (goal.at.returns c).After-min-n) l.i (omega arith)) l.invariant
