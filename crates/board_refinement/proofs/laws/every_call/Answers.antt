use Rattle.board_refinement.proofs.Forms.{every_call}
use Rattle.board_refinement.proofs.laws.every_call.Goals as goal

pub returns : goal.returns
returns c = every_call
