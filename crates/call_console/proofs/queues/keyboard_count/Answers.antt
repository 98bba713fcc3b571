use mathlib.Core.Path.{sym, ◌∙◌}
use Rattle.call_console.proofs.Rings.{many_is}
use Rattle.call_console.proofs.queues.keyboard_count.Goals as goal

pub returns : goal.returns
returns c = λ words. c.min.ensures ∙ sym (many_is c.args.s words)
