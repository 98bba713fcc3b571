use Rattle.std.proofs.Common.{refl, false, get_or}
use Rattle.std.proofs.lemmas.List.{get_or-replicate, take_more}
use Rattle.node.specs.declared.record.Edge.{Edge}
use Rattle.graph.proofs.Ports.{more_off, more_hit, off_to, off_port}
use Rattle.graph.proofs.edge_table.taken_ports.Goals as goal
use Rattle.graph.proofs.edge_table.taken_ports.Goals.{then-e-to+then-e-lt64, else-e-to, else-e-to-via-then-e-to+else-e-lt64, else-e-to-via-else-e-to}

pub loop-e-init : goal.loop-e-init
loop-e-init c = (refl, λ p m. get_or-replicate 64 p false false m)

pub loop-e-preserved : goal.loop-e-preserved
loop-e-preserved c =
    let blank : Edge = record { from = record { 0 = 0 }; to = record { 0 = 0 }; port = 0 } in
    let e : Edge = get_or c.args.edges.now c.loop-e.e-index blank in
    rw (take_more c.args.edges.now c.loop-e.e-index blank c.loop-e-test.true)
    (elim c.if-e-to.branch [
      | then-e-to+then-e-lt64 w ↦ rw w.taken-is (more_hit 64 _ _ e _ c.loop-e.invariant w.if-e-to.true w.if-e-lt64.true)
      | else-e-to w ↦ rw w.taken-is
          (more_off 64 _ _ e _ c.loop-e.invariant
          (elim w.else-e-to.branch [
            | else-e-to-via-then-e-to+else-e-lt64 v ↦ off_port c.args.to e v.if-e-lt64.false
            | else-e-to-via-else-e-to v ↦ off_to c.args.to e v.if-e-to.false
          ]))
    ])
