use Rattle.model.specs.Call.{add_node}
use Rattle.engine.specs.Called.{add_answered}
use Rattle.console.specs.Console.{on}
use Rattle.board.proofs.Calls.{next}
use Rattle.board.proofs.Seals.{on_console}
use Rattle.board.proofs.consoles.Console.add_node.Goals as goal

pub invariant_of-self : goal.invariant_of-self
invariant_of-self g c =
    let n = c.args.node in
    let x = add_node c.args.kind.now n.ports n.required n.takes_values n.takes_glides in
    let made = on_console x c.self.inside.store (add_answered c.add_node.result) c.add_node.new.self c.self.inside.keyboards c.add_node.ensures in
    next (on x) c.self.invariant made
