use Rattle.std.proofs.Common.{◌≡◌, ◌∙◌, ap, sym, arith, Bool, not, length, drop, ◌≤◌}
use Rattle.scheduler.specs.declared.event.Event.{Event}
use Rattle.std.specs.Prelude.{filter}
use Rattle.lists.proofs.Filter.{length_filter}
use Rattle.scheduler.specs.Queue.{due, left_after}
use Rattle.scheduler.proofs.Sorted.{filter_sorted}
use Rattle.scheduler.proofs.queue.Scheduler.drain_before.Goals as goal

pub invariant_of-self : goal.invariant_of-self
invariant_of-self c =
    let left : c.drop_first.new.events.items ≡ left_after c.args.deadline c.self.inside.events.items =
    c.drop_first.ensures ∙ ap (drop c.count_due-due.result) (sym c.as_slice.ensures.value) ∙ c.count_due-due.ensures.left ∙ ap (left_after c.args.deadline) c.as_slice.ensures.value in
    let later : Event → Bool = λ (e : Event). not (due c.args.deadline e) in
    let fewer : length (filter later c.self.inside.events.items) ≤ 256 = omega (arith, length_filter later c.self.inside.events.items, c.self.invariant.0) in
    rw left (fewer, filter_sorted later c.self.inside.events.items c.self.invariant.1)
