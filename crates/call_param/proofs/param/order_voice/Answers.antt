use mathlib.Core.Path.{sym, ◌∙◌}
use Rattle.call_param.proofs.Whole.{voice_freed}
use Rattle.call_param.proofs.param.order_voice.Goals as goal

pub returns-then-is_listed : goal.returns-then-is_listed
returns-then-is_listed c =
    let s = c.args in
    voice_freed s.freed.now s.w s.name s.o s.voices.now s.nodes.now s.s.voices s.s.nodes (sym c.is_listed.ensures ∙ c.if-is_listed.true)
