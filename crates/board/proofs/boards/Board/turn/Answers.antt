use Rattle.board.proofs.Seals.{turn_more}
use Rattle.board.specs.Called.{turn_answered}
use Rattle.board.proofs.boards.Board.turn.Goals as goal

pub invariant_of-self : goal.invariant_of-self
invariant_of-self g c = turn_more c.self.inside.seal c.self.inside.store c.self.inside.keyboards (turn_answered c.turn.result) c.turn.new.store c.turn.new.keyboards c.self.invariant c.turn.ensures
