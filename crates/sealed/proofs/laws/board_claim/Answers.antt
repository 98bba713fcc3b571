use Rattle.sealed.proofs.Boards.{board_claim}
use Rattle.sealed.proofs.laws.board_claim.Goals as goal

pub returns : goal.returns
returns c = board_claim
