use Rattle.sealed.proofs.Theorem.{sealed}
use Rattle.sealed.proofs.laws.sealed_run.Goals as goal

pub returns : goal.returns
returns c = sealed
