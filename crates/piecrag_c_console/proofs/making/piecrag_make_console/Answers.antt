use mathlib.Core.Path.{ap, ◌∙◌}
use Rattle.console.specs.Console.{make_console}
use Rattle.state_words.specs.State.{budget_in}
use Rattle.c_answer.specs.Argument.{making_in}
use Rattle.c_answer.proofs.Consoles.{makes, made_keeps, made_told}
use Rattle.piecrag_c_console.proofs.making.piecrag_make_console.Goals as goal

pub returns : goal.returns
returns c =
    let a = c.args in
    let asked = c.making_in-asked in
    let r = c.make_console-made in
    let said = making_in a.rate a.block (budget_in a.limited a.budget) a.policy a.scope a.table in
    makes (make_console said a.keyboards) r.result.answer r.result.state r.result.wishes a.state.now a.waiting.now c.settle.new.w c.settle_waiting.new.w c.is_err-kept.result c.result_code.result c.settle.result
    (λ m words. r.ensures m words ∙ ap (λ k. make_console k a.keyboards) asked.ensures) (λ x. c.is_err-kept.ensures.value ∙ made_keeps r.result.answer x) (λ x. c.result_code.ensures ∙ made_told r.result.answer x) c.settle_waiting.ensures c.settle.ensures
