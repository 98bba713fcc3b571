use Rattle.board_isolation.proofs.Theorem.{board_isolated}
use Rattle.board_isolation.proofs.laws.board_isolated.Goals as goal

pub returns : goal.returns
returns c = board_isolated
