use Rattle.std.proofs.Common.{rules, not, refl}
use Rattle.scheduler.specs.Queue.{due}
use Rattle.words.proofs.Gaps.{closed_rows}
use Rattle.event_table.specs.Rows.{event_of}
use Rattle.event_table.proofs.queue.remove_due.Goals as goal

pub returns : goal.returns
returns c =
    let s = c.args in
    closed_rows 15 event_of (λ e. not (due s.deadline e)) s.t.now c.close_gaps.new.t c.close_gaps.result 0 s.count _ c.close_gaps.ensures (λ t i b h. search rules) refl
