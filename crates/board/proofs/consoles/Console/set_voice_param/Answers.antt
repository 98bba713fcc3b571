use Rattle.node.specs.declared.order.LastOrder.TheVariants as last
use Rattle.model.specs.Call.{order}
use Rattle.console.specs.Console.{on}
use Rattle.board.proofs.Calls.{next}
use Rattle.board.proofs.Seals.{on_console}
use Rattle.board.proofs.consoles.Console.set_voice_param.Goals as goal

pub invariant_of-self : goal.invariant_of-self
invariant_of-self g c =
    let x = order c.args.voice c.args.name.now (last.Value c.args.value) in
    next (on x) c.self.invariant (on_console x _ _ _ _ c.set_voice_param.ensures)
