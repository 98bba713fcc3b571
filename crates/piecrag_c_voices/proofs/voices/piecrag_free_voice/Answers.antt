use mathlib.Core.Path.{refl, ◌∙◌}
use mathlib.Core.Bool.{false}
use Rattle.model.specs.Call as call
use Rattle.c_answer.proofs.Exporting.{no, exported}
use Rattle.memory.specs.Lent.{lent_voices}
use Rattle.piecrag_c_voices.proofs.voices.piecrag_free_voice.Goals as goal

pub returns : goal.returns
returns c =
    let a = c.args in
    let r = c.free_voice-r in
    let read = c.state_in-s in
    λ m.
    exported (call.free (record { 0 = a.voice })) (call.free (record { 0 = a.voice })) (λ s. lent_voices s a.nodes.now a.edges.now a.voices.now m) (λ s. lent_voices s r.new.nodes r.new.edges r.new.voices m) a.state.now read.result r.result.state (call.ordered r.result.answer) refl read.ensures (r.ensures.is m)
    (λ s. refl) (λ s. refl) false c.from.result c.from.result c.put_state.new.w (λ h. no h) refl (c.from.ensures ∙ c.outcome_number.ensures) (record { told = refl; stays = λ h. no h; moved = λ h. c.put_state.ensures })
