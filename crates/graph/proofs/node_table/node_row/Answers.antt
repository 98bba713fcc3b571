use Rattle.std.proofs.Common.{rules, arith, sym}
use Rattle.graph.specs.Sound.{id_of}
use Rattle.lists.proofs.Halve.{point, hit, miss, past}
use Rattle.graph.proofs.node_table.node_row.Goals as goal
use Rattle.graph.proofs.node_table.node_row.Goals.{else-at-nodes-via-then-at-nodes+else-nodes-at, else-at-nodes-via-else-at-nodes}

pub returns-then-nodes-at : goal.returns-then-nodes-at
returns-then-nodes-at c =
    let p = point id_of c.args.id.0 _ _ c.requires c.partition_point-at.ensures.partitioned (λ a r f called. search rules) in
    sym (hit id_of c.args.id.0 _ _ c.requires c.partition_point-at.ensures.bound p _ c.if-at-nodes.true c.if-nodes-at.true)

pub returns : goal.returns
returns c =
    let p = point id_of c.args.id.0 _ _ c.requires c.partition_point-at.ensures.partitioned (λ a r f called. search rules) in
    elim c.else-at-nodes.branch [
      | else-at-nodes-via-then-at-nodes+else-nodes-at w ↦ sym (miss id_of c.args.id.0 _ _ c.requires c.partition_point-at.ensures.bound p _ (λ m. w.if-nodes-at.false))
      | else-at-nodes-via-else-at-nodes w ↦ sym (past id_of c.args.id.0 _ _ c.requires c.partition_point-at.ensures.bound p (omega (arith, w.if-at-nodes.false)))
    ]
