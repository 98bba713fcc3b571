use mathlib.Core.Path.{refl}
use Rattle.model.specs.Call as call
use Rattle.memory.specs.Lent.{lent_nodes}
use Rattle.memory.specs.Called.{answered}
use Rattle.c_answer.proofs.Exporting.{done_code, done_kept}
use Rattle.piecrag_c_seal.proofs.Boards.{settled}
use Rattle.piecrag_c_seal.proofs.host.piecrag_set_sink.Goals as goal

pub returns : goal.returns
returns c =
    let a = c.args in
    let x = c.seal_in-x in
    let s = c.state_in-s in
    let r = c.set_sink-r in
    let asked = call.set_sink (record { 0 = a.node }) in
    λ m p w.
    settled answered done_code done_kept asked asked (λ j. lent_nodes j a.nodes.now m) (λ j. lent_nodes j a.nodes.now m) (λ j. refl) (λ j. refl) p w x.result a.seal.now a.state.now s.result r.result.state r.result.answer refl x.ensures s.ensures (r.ensures.is m p w) (r.ensures.same m p w)
    c.settle_result.result c.settle_result.new.w c.settle_result.ensures
