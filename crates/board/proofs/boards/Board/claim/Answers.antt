use Rattle.std.proofs.Common.{subst}
use Rattle.board.specs.Reached.{BoardClaimed}
use Rattle.board.proofs.Calls.{held}
use Rattle.board.proofs.boards.Board.claim.Goals as goal

pub returns : goal.returns
returns g c = subst BoardClaimed c.self.view_is (held c.self.invariant)
