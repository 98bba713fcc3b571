use Rattle.model.specs.Call.{set_sink}
use Rattle.console.specs.Console.{on}
use Rattle.board.proofs.Calls.{next}
use Rattle.board.proofs.Seals.{on_console}
use Rattle.board.proofs.consoles.Console.set_sink.Goals as goal

pub invariant_of-self : goal.invariant_of-self
invariant_of-self g c =
    let x = set_sink c.args.node in
    next (on x) c.self.invariant (on_console x _ _ _ _ c.set_sink.ensures)
