use mathlib.Core.Path.{refl, ◌∙◌}
use Rattle.model.specs.Call as call
use Rattle.c_answer.proofs.Exporting.{unsettled, done_code}
use Rattle.memory.specs.Lent.{lent_params}
use Rattle.words.specs.Fields.{is_set}
use Rattle.memory.specs.Called.{answered}
use Rattle.piecrag_c_voices.proofs.voices.piecrag_report.Goals as goal

pub returns : goal.returns
returns c =
    let a = c.args in
    let r = c.report-a in
    let read = c.state_in-s in
    λ m.
    unsettled (call.report (record { 0 = a.node }) a.channels a.samples.now (is_set a.done)) (call.report (record { 0 = a.node }) a.channels a.samples.now (is_set a.done)) (λ s. lent_params s a.nodes.now a.voices.now m) (λ s. lent_params s r.new.nodes a.voices.now m) a.state.now read.result read.result (answered r.result) refl read.ensures (r.ensures.is m)
    c.result_code.result refl (r.ensures.same m) (c.result_code.ensures ∙ done_code r.result)
