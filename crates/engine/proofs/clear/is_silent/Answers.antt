use Rattle.std.proofs.Common.{◌∙◌}
use Rattle.engine.proofs.Doing.{silent_by}
use Rattle.engine.proofs.clear.is_silent.Goals as goal

pub returns : goal.returns
returns c = c.plan_silent.ensures ∙ silent_by _ c.args.v.now c.done_flags.result c.done_flags.ensures
