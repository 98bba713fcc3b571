use Rattle.std.proofs.Common.{subst}
use Rattle.engine.specs.Reached.{Claimed}
use Rattle.engine.proofs.Calls.{claimed}
use Rattle.engine.proofs.reach.Store.claim.Goals as goal

pub returns : goal.returns
returns c = subst Claimed c.self.view_is (claimed c.self.invariant)
