use Rattle.replaced.proofs.Theorem.{replaced_same}
use Rattle.replaced.proofs.laws.replaced_same.Goals as goal

pub returns : goal.returns
returns c = replaced_same
