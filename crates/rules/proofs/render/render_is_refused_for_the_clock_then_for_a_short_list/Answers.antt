use Rattle.rules.proofs.RenderLaws.{render_rule}
use Rattle.rules.proofs.render.render_is_refused_for_the_clock_then_for_a_short_list.Goals as goal

pub returns : goal.returns
returns c = render_rule
