use Rattle.model.specs.Call.{prepare}
use Rattle.console.specs.Console.{on}
use Rattle.board.proofs.Calls.{next}
use Rattle.board.proofs.Seals.{on_console}
use Rattle.board.proofs.consoles.Console.prepare.Goals as goal

pub invariant_of-self : goal.invariant_of-self
invariant_of-self g c =
    let x = prepare in
    next (on x) c.self.invariant (on_console x _ _ _ _ c.prepare.ensures)
