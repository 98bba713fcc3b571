use Rattle.rules.proofs.Clearing.{clear_law}
use Rattle.rules.proofs.clear.clearing.Goals as goal

pub returns : goal.returns
returns c = clear_law
