use mathlib.Core.Path.{ap, ◌∙◌}
use Rattle.memory.specs.View.{model_of}
use Rattle.memory.specs.Lent.{lent_voices}
use Rattle.call_free.specs.Forgotten.{without_ids}
use Rattle.call_render.proofs.Events.{all_applied}
use Rattle.call_render.proofs.due.apply_events.Goals as goal

pub returns : goal.returns
returns c =
    let s = c.args in
    let h = c.apply_due-taken in
    let e = c.remove_due-rest in
    let u = c.with_events-queued in
    let f = c.forget_voices-state in
    all_applied s.s s.nodes.now s.edges.now s.voices.now s.events.now s.deadline h.new.nodes h.new.freed s.out.now h.new.out h.result h.ensures e.new.t e.result e.ensures u.result u.ensures f.result f.new.nodes f.new.edges f.new.voices
    (λ m. f.ensures m ∙ ap (λ l. without_ids l (model_of (lent_voices u.result h.new.nodes s.edges.now s.voices.now m))) c.as_slice.ensures)
