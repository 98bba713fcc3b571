use mathlib.Core.Path.{◌≡◌, refl, ◌∙◌}
use Rattle.model.specs.Call as call
use Rattle.c_answer.proofs.Exporting.{exported, tells}
use Rattle.memory.specs.Lent.{lent_render}
use Rattle.c_answer.specs.Exported.{Took, sound_cell, taken_cell}
use Rattle.piecrag_c_voices.proofs.voices.piecrag_render.Goals as goal

pub returns : goal.returns
returns c =
    let a = c.args in
    let r = c.render-r in
    let read = c.state_in-s in
    let out = r.new.out in record {
      is = λ m.
          exported (call.render a.outcomes.now) (call.render a.outcomes.now) (λ s. lent_render s a.nodes.now a.edges.now a.order.now a.voices.now a.events.now m) (λ s. lent_render s r.new.nodes r.new.edges r.new.order r.new.voices r.new.events m) a.state.now read.result r.result.state (call.rendered r.result.answer r.result.taken out) refl read.ensures (r.ensures.is m)
          (λ s. refl) (λ s. refl) c.render_kept.result c.render_code.result c.settle.result c.settle.new.w (r.ensures.same m) c.render_kept.ensures c.render_code.ensures c.settle.ensures;
      cell = λ m.
          tells (call.render a.outcomes.now) (call.render a.outcomes.now) (λ s. lent_render s a.nodes.now a.edges.now a.order.now a.voices.now a.events.now m) (λ s. lent_render s r.new.nodes r.new.edges r.new.order r.new.voices r.new.events m) a.state.now read.result r.result.state (call.rendered r.result.answer r.result.taken out) refl read.ensures (r.ensures.is m)
          (λ t. call.rendered t.answer t.taken out) c.settle.result (λ (t : Took). (c.sound_cell.result ≡ sound_cell t.answer a.sounding.now) × (c.taken_cell.result ≡ taken_cell t.answer t.taken a.taken.now))
          (record { answer = r.result.answer; taken = r.result.taken }) refl (c.settle.ensures.told ∙ c.render_code.ensures) (c.sound_cell.ensures, c.taken_cell.ensures);
    }
