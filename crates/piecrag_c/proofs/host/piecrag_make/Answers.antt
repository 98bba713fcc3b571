use Rattle.state_words.specs.State.{budget_in}
use Rattle.c_answer.specs.Argument.{making_in}
use Rattle.c_answer.proofs.Exporting.{done_code, done_kept}
use Rattle.piecrag_c.proofs.Making.{made}
use Rattle.piecrag_c.proofs.host.piecrag_make.Goals as goal

pub returns : goal.returns
returns c =
    let a = c.args in
    let asked = c.making_in-asked in
    let r = c.make in
    let told = made asked.result (making_in a.rate a.block (budget_in a.limited a.budget) a.policy a.scope a.table) a.state.now c.settle_result.new.w r.result _ _ c.settle_result.result asked.ensures r.ensures.answer r.ensures.state (done_kept r.result.answer) (done_code r.result.answer) c.settle_result.ensures in
    record { answer = told.0; model = told.1.0; same = told.1.1 }
