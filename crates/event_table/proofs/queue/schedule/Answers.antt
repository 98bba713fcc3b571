use Rattle.std.proofs.Common.{length, take, sym, ap, subst, ◌∙◌}
use Rattle.std.proofs.lemmas.Result.{err_from_is_err_and}
use Rattle.scheduler.specs.Queue.{inserted, full}
use Rattle.event_table.specs.Rows.{events_in}
use Rattle.event_table.specs.Key.{thinned_by}
use Rattle.event_table.specs.Queue.{Thinned}
use Rattle.event_table.proofs.Keys.{key_thinned}
use Rattle.event_table.proofs.Scheduling.{queue_full, queue_taken}
use Rattle.event_table.proofs.queue.schedule.Goals as goal

pub returns-in_err-left : goal.returns-in_err-left
returns-in_err-left c =
    let s = c.args in
    let k = c.key_of in
    let made = c.make_place in
    let queue = take s.count (events_in s.t.now) in
    let left = subst (λ r. Thinned (thinned_by k.result queue) s.t.now r made.new.t) c.in_err-left.was made.ensures in
    let exit = err_from_is_err_and c.from_residual.result c.from_residual.ensures.1 in
    rw (exit.1, exit.2, left.1, left.2) (queue_full s.count s.e s.t.now (sym (ap full (key_thinned s.e k.result k.ensures queue)) ∙ left.0))

pub returns : goal.returns
returns c =
    let s = c.args in
    let k = c.key_of in
    let made = c.make_place in
    let queue = take s.count (events_in s.t.now) in
    let left = subst (λ r. Thinned (thinned_by k.result queue) s.t.now r made.new.t) c.in_ok-left.was made.ensures in
    let same = key_thinned s.e k.result k.ensures queue in
    queue_taken s.count s.e s.t.now c.insert.new.t c.in_ok-left.left (sym (ap full same) ∙ left.0) (left.1.many ∙ ap length same) (c.insert.ensures ∙ ap (inserted s.e) (left.1.is ∙ same))
