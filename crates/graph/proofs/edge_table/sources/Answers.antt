use Rattle.std.proofs.Common.{refl, ◌≡◌, ◌∙◌, sym, ap, None, not, length, take, get_or, arith}
use Rattle.std.proofs.lemmas.List.{get_or-replicate, take_more}
use lib.Seq.{take_all}
use Rattle.node.specs.declared.record.Edge.{Edge}
use Rattle.graph.proofs.Ports.{fed_off, fed_hit, fed_held, fed_all, off_to, off_port}
use Rattle.graph.proofs.edge_table.sources.Goals as goal
use Rattle.graph.proofs.edge_table.sources.Goals.{then-e-to+then-e-lt64+then-is_none, then-e-to+then-e-lt64+else-is_none, else-e-to, else-e-to-via-then-e-to+else-e-lt64, else-e-to-via-else-e-to}

pub loop-e-init : goal.loop-e-init
loop-e-init c = (refl, λ p m. get_or-replicate 64 p None None m)

pub loop-e-preserved : goal.loop-e-preserved
loop-e-preserved c =
    let blank : Edge = record { from = record { 0 = 0 }; to = record { 0 = 0 }; port = 0 } in
    let e : Edge = get_or c.args.edges.now c.loop-e.e-index blank in
    rw (take_more c.args.edges.now c.loop-e.e-index blank c.loop-e-test.true)
    (elim c.if-e-to.branch [
      | then-e-to+then-e-lt64+then-is_none w ↦ rw w.fed-is (fed_hit 64 _ _ e _ c.loop-e.invariant w.if-e-to.true w.if-e-lt64.true (w.is_none.ensures ∙ ap not w.if-is_none.true))
      | then-e-to+then-e-lt64+else-is_none w ↦ rw w.fed-is (fed_held 64 (take c.loop-e.e-index c.args.edges.now) c.args.to e c.loop-e.fed c.loop-e.invariant w.if-e-lt64.true (w.is_none.ensures ∙ ap not w.if-is_none.false))
      | else-e-to w ↦ rw w.fed-is
          (fed_off 64 _ _ e _ c.loop-e.invariant
          (elim w.else-e-to.branch [
            | else-e-to-via-then-e-to+else-e-lt64 v ↦ off_port c.args.to e v.if-e-lt64.false
            | else-e-to-via-else-e-to v ↦ off_to c.args.to e v.if-e-to.false
          ]))
    ])

pub returns : goal.returns
returns c =
    let fed = rw (take_all c.loop-e.e-index c.args.edges.now c.loop-e-test.false) at c.loop-e.invariant in
    let long : length c.loop-e.fed ≡ 64 = fed.0 in
    fed_all c.args.edges.now c.args.to c.loop-e.fed 64 0 (sym long) (λ p m. fed.1 p (omega (arith, m, long)))
