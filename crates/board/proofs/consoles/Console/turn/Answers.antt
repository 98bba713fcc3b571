use Rattle.console.specs.Console.{turn}
use Rattle.board.proofs.Calls.{next}
use Rattle.board.proofs.consoles.Console.turn.Goals as goal

pub invariant_of-self : goal.invariant_of-self
invariant_of-self g c = next turn c.self.invariant c.turn.ensures
