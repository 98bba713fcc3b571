use Rattle.refusals.proofs.Prepare.{prepare_refuses}
use Rattle.refusals.proofs.prepare_is_refused.Goals as goal

pub returns : goal.returns
returns c = prepare_refuses
