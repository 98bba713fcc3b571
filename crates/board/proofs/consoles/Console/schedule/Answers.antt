use Rattle.model.specs.Call.{schedule}
use Rattle.console.specs.Console.{on}
use Rattle.board.proofs.Calls.{next}
use Rattle.board.proofs.Seals.{on_console}
use Rattle.board.proofs.consoles.Console.schedule.Goals as goal

pub invariant_of-self : goal.invariant_of-self
invariant_of-self g c =
    let x = schedule c.args.time c.args.voice c.args.name.now c.args.action in
    next (on x) c.self.invariant (on_console x _ _ _ _ c.schedule.ensures)
