use Rattle.std.proofs.Common.{rules, ◌∙◌, length}
use borrow.Author.Tests.{le-ltb}
use Rattle.lists.proofs.Halve.{point}
use Rattle.graph.specs.Sound.{itself}
use Rattle.graph.proofs.Rising.{among_at, among_past}
use Rattle.graph.proofs.edge_table.is_among.Goals as goal

pub returns-then-at-ids : goal.returns-then-at-ids
returns-then-at-ids c =
    λ r.
    let p = point itself c.args.x _ _ r c.partition_point-at.ensures.partitioned (λ a b f called. search rules) in
    among_at c.args.ids.now c.args.x _ r c.partition_point-at.ensures.bound p _ c.if-at-ids.true

pub returns-else-at-ids : goal.returns-else-at-ids
returns-else-at-ids c =
    λ r.
    let p = point itself c.args.x _ _ r c.partition_point-at.ensures.partitioned (λ a b f called. search rules) in
    le-ltb c.partition_point-at.result (length c.args.ids.now) c.if-at-ids.false ∙ among_past c.args.ids.now c.args.x _ r c.partition_point-at.ensures.bound p c.if-at-ids.false
