use Rattle.std.specs.Prelude.{Result}
use Rattle.node.specs.declared.refusal.Refusal.{Refusal}
use mathlib.Core.Path.{ap, ◌∙◌}
use Rattle.console.specs.Wishes.{keyboards_refusal, new_wishes, Wishes}
use Rattle.model.specs.Model.{Model}
use Rattle.model.specs.Make.{new_model, config_of, refusal_of}
use Rattle.memory.specs.Lent.{lent_state}
use Rattle.call_console.specs.declared.making.MakeRefusal.{MakeRefusal}
use Rattle.call_console.specs.Called.{memory, console_of, made_of, judged}
use Rattle.call_console.specs.Queues.{wishes_of}
use Rattle.call_console.proofs.Calls.{made_is}
use Rattle.call_console.proofs.making.make_console.Goals as goal

pub returns : goal.returns
returns c =
    let a = c.args in
    let k = a.making in
    λ m words.
    let now = console_of (memory (lent_state c.make-made.result.state m) c.new_wishes.result words) in
    ap (λ (x : Result (Unit {0}) MakeRefusal). made_of x now) (c.judge.ensures ∙ ap (λ (x : Result (Unit {0}) Refusal). judged x (keyboards_refusal a.keyboards)) c.make-made.ensures.answer)
    ∙ made_is (refusal_of k) a.keyboards now (record { model = new_model (config_of k); wishes = new_wishes a.keyboards })
    (λ h. ap (λ (x : Model). record { model = x; wishes = wishes_of c.new_wishes.result words }) (c.make-made.ensures.state m) ∙ ap (λ (x : Wishes). record { model = new_model (config_of k); wishes = x }) (c.new_wishes.ensures h words))
