use mathlib.Core.Path.{refl, ap, ◌∙◌}
use lib.ListN.{length}
use Rattle.console.specs.Wishes.{waiting_at}
use Rattle.call_console.specs.Queues.{wishes_of}
use Rattle.piecrag_c_console.proofs.reading.piecrag_waiting_count.Goals as goal

pub returns : goal.returns
returns c = (refl, λ words. c.waiting_count.ensures words ∙ ap (λ s. length (waiting_at c.args.keyboard (wishes_of s words))) c.waiting_in-s.ensures)
