use mathlib.Core.Bool.{not}
use mathlib.Core.Path.{ap, ap₂, ◌∙◌}
use Rattle.model.specs.Call.{ordered}
use Rattle.store.specs.declared.answer.Outcome.{Outcome}
use Rattle.model.specs.Model.{Model}
use Rattle.voice_rows.specs.Rows.{voices_in}
use Rattle.memory.specs.View.{model_of}
use Rattle.memory.specs.Lent.{lent_voices}
use Rattle.call_free.proofs.Frees.{known_applied, frees}
use Rattle.call_free.proofs.free.free_voice.Goals as goal

pub returns-clause-is : goal.returns-clause-is
returns-clause-is c =
    let a = c.args in
    let found = c.find_voice in
    let vs = voices_in a.voices.now in
    let some = c.is_none.ensures ∙ ap not c.if-is_none.false in
    λ m. ap₂ (λ (o : Outcome) (n : Model). record { answer = ordered o; model = n })
    (known_applied a.w a.s.voices vs found.result found.ensures some)
    (c.forget_voice-state.ensures m ∙ frees a.w a.s.voices vs found.result found.ensures some (model_of (lent_voices a.s a.nodes.now a.edges.now a.voices.now m)))
