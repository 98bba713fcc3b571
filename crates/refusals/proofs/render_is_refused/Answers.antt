use Rattle.refusals.proofs.Render.{render_refuses}
use Rattle.refusals.proofs.render_is_refused.Goals as goal

pub returns : goal.returns
returns c = render_refuses
