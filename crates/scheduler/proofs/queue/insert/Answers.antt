use Rattle.std.proofs.Common.{rules, ◌∙◌, ap, sym}
use Rattle.std.specs.List.{insert}
use Rattle.std.proofs.lemmas.List.Sorted.{IsPartitionPoint-from_clause, IsPartitionedBy-leb}
use lib.Dec.{leb}
use Rattle.scheduler.specs.declared.event.Event.{Event}
use Rattle.scheduler.specs.Sorted.{Sorted}
use Rattle.scheduler.specs.Queue.{inserted}
use Rattle.scheduler.proofs.Halved.{Parted, sorted_up, placed}
use Rattle.scheduler.proofs.queue.insert.Goals as goal

pub returns : goal.returns
returns c =
    let s : Sorted c.as_slice.result.now = rw c.as_slice.ensures.value c.requires.sorted in
    let p : Parted (λ (f : Event). leb f.time c.args.e.time) c.as_slice.result.now c.partition_point-place.result =
    IsPartitionPoint-from_clause (λ (f : Event). leb f.time c.args.e.time) _ _ c.partition_point-place.ensures.partitioned (IsPartitionedBy-leb (λ (f : Event). f.time) _ c.args.e.time (sorted_up _ s)) (λ a r f called. search rules) in
    c.insert.ensures.items
    ∙ ap (λ l. insert l c.partition_point-place.result c.args.e) (sym c.as_slice.ensures.value)
    ∙ placed c.args.e _ _ c.partition_point-place.ensures.bound p
    ∙ ap (inserted c.args.e) c.as_slice.ensures.value
