use mathlib.Core.Path.{refl}
use Rattle.model.specs.Call as call
use Rattle.memory.specs.Lent.{lent_order}
use Rattle.memory.specs.Called.{answered}
use Rattle.c_answer.proofs.Exporting.{exported, done_code, done_kept}
use Rattle.piecrag_c.proofs.host.piecrag_prepare.Goals as goal

pub returns : goal.returns
returns c =
    let a = c.args in
    let r = c.prepare in
    let read = c.state_in-s in
    λ m.
    exported (call.prepare) (call.prepare) (λ s. lent_order s a.nodes.now a.edges.now a.order.now m) (λ s. lent_order s a.nodes.now a.edges.now r.new.order m) a.state.now read.result r.result.state (answered r.result.answer) (refl) read.ensures (r.ensures.is m)
    (λ s. refl) (λ s. refl) _ _ c.settle_result.result c.settle_result.new.w (r.ensures.same m) (done_kept r.result.answer) (done_code r.result.answer) c.settle_result.ensures
