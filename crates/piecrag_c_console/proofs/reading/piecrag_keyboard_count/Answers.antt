use mathlib.Core.Path.{refl, ap, ◌∙◌}
use Rattle.console.specs.Wishes.{keyboards}
use Rattle.call_console.specs.Queues.{wishes_of}
use Rattle.piecrag_c_console.proofs.reading.piecrag_keyboard_count.Goals as goal

pub returns : goal.returns
returns c = (refl, λ words. c.keyboard_count.ensures words ∙ ap (λ s. keyboards (wishes_of s words)) c.waiting_in-s.ensures)
