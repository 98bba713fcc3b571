use Rattle.refusals.proofs.Definition.{limits}
use Rattle.refusals.proofs.definition_is_within.Goals as goal

pub returns : goal.returns
returns c = λ d. record { yes = limits d }
