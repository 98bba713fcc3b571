use Rattle.model.specs.Call.{remove_node}
use Rattle.console.specs.Console.{on}
use Rattle.board.proofs.Calls.{next}
use Rattle.board.proofs.Seals.{on_console}
use Rattle.board.proofs.consoles.Console.remove_node.Goals as goal

pub invariant_of-self : goal.invariant_of-self
invariant_of-self g c =
    let x = remove_node c.args.node in
    next (on x) c.self.invariant (on_console x _ _ _ _ c.remove_node.ensures)
