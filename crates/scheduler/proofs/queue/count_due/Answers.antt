use Rattle.std.proofs.Common.{rules}
use Rattle.std.proofs.lemmas.List.Sorted.{IsPartitionPoint-from_clause, IsPartitionedBy-ltb}
use Rattle.scheduler.specs.declared.event.Event.{Event}
use Rattle.scheduler.specs.Queue.{due}
use Rattle.scheduler.proofs.Halved.{Parted, sorted_up, first_pass, last_fail}
use Rattle.scheduler.proofs.queue.count_due.Goals as goal

pub returns-clause-due : goal.returns-clause-due
returns-clause-due c =
    let p : Parted (due c.args.deadline) c.args.events.now c.partition_point.result =
    IsPartitionPoint-from_clause (due c.args.deadline) _ _ c.partition_point.ensures.partitioned (IsPartitionedBy-ltb (λ (f : Event). f.time) _ c.args.deadline (sorted_up _ c.requires)) (λ a r f called. search rules) in
    first_pass (due c.args.deadline) _ _ c.partition_point.ensures.bound p

pub returns-clause-left : goal.returns-clause-left
returns-clause-left c =
    let p : Parted (due c.args.deadline) c.args.events.now c.partition_point.result =
    IsPartitionPoint-from_clause (due c.args.deadline) _ _ c.partition_point.ensures.partitioned (IsPartitionedBy-ltb (λ (f : Event). f.time) _ c.args.deadline (sorted_up _ c.requires)) (λ a r f called. search rules) in
    last_fail (due c.args.deadline) _ _ c.partition_point.ensures.bound p
