use Rattle.model.specs.Call.{report}
use Rattle.console.specs.Console.{on}
use Rattle.board.proofs.Calls.{next}
use Rattle.board.proofs.Seals.{on_console}
use Rattle.board.proofs.consoles.Console.report.Goals as goal

pub invariant_of-self : goal.invariant_of-self
invariant_of-self g c =
    let x = report c.args.node c.args.channels c.args.samples.now c.args.done in
    next (on x) c.self.invariant (on_console x _ _ _ _ c.report.ensures)
