use Rattle.std.proofs.Common.{subst}
use Rattle.board.specs.Reached.{ConsoleClaimed}
use Rattle.board.proofs.Calls.{claimed}
use Rattle.board.proofs.consoles.Console.claim.Goals as goal

pub returns : goal.returns
returns g c = subst ConsoleClaimed c.self.view_is (claimed c.self.invariant)
