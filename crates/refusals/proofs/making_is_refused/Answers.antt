use Rattle.refusals.proofs.Making.{makes}
use Rattle.refusals.proofs.making_is_refused.Goals as goal

pub returns : goal.returns
returns c = makes
