use Rattle.std.proofs.Common.{◌∙◌, sym, arith, not, length, ◌<◌}
use borrow.Author.Tests.{leb-false}
use Rattle.scheduler.specs.Replace.{replaces, thinned}
use Rattle.scheduler.proofs.Sorted.{filter_sorted, inserted_sorted, length_inserted}
use Rattle.scheduler.proofs.queue.Scheduler.schedule.Goals as goal

pub insert-requires-clause-sorted : goal.insert-requires-clause-sorted
insert-requires-clause-sorted c = rw c.thin.ensures (filter_sorted (λ f. not (replaces c.args.event f)) _ c.self.invariant.1)

pub invariant_of-self : goal.invariant_of-self
invariant_of-self c =
    let left = thinned c.args.event c.self.inside.events.items in
    let room : length left < 256 = leb-false _ _ (sym c.no_room.ensures ∙ c.if-no_room.false) in
    rw (c.insert.ensures, c.thin.ensures)
    (omega (arith, room, length_inserted c.args.event left), inserted_sorted c.args.event left (filter_sorted (λ f. not (replaces c.args.event f)) _ c.self.invariant.1))
