use Rattle.sealed.proofs.Opens.{opens_exactly}
use Rattle.sealed.proofs.laws.opens_exactly.Goals as goal

pub returns : goal.returns
returns c = opens_exactly
