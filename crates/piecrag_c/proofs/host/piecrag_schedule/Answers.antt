use mathlib.Core.Path.{refl, ap, ◌∙◌}
use Rattle.model.specs.Call as call
use Rattle.memory.specs.Lent.{lent_events}
use Rattle.memory.specs.Called.{answered}
use Rattle.c_answer.proofs.Exporting.{exported, done_code, done_kept}
use Rattle.c_answer.specs.Argument.{glide_in, action_in}
use Rattle.piecrag_c.proofs.host.piecrag_schedule.Goals as goal

pub returns : goal.returns
returns c =
    let a = c.args in
    let r = c.schedule-r in
    let read = c.state_in-s in
    let glide = c.glide_in in
    let asked = c.action_in-asked in
    let given = asked.ensures ∙ ap (action_in a.action) glide.ensures in
    let wanted = action_in a.action (glide_in a.value a.seconds a.shape a.curve a.space) in
    let named = call.schedule a.time (record { 0 = a.voice }) a.name.now in
    λ m.
    exported (named wanted) (named asked.result) (λ s. lent_events s a.events.now m) (λ s. lent_events s r.new.events m) a.state.now read.result r.result.state (answered r.result.answer) (ap named given) read.ensures (r.ensures.is m)
    (λ s. refl) (λ s. refl) _ _ c.settle_result.result c.settle_result.new.w (r.ensures.same m) (done_kept r.result.answer) (done_code r.result.answer) c.settle_result.ensures
