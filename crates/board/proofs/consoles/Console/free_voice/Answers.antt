use Rattle.model.specs.Call.{free}
use Rattle.console.specs.Console.{on}
use Rattle.board.proofs.Calls.{next}
use Rattle.board.proofs.Seals.{on_console}
use Rattle.board.proofs.consoles.Console.free_voice.Goals as goal

pub invariant_of-self : goal.invariant_of-self
invariant_of-self g c =
    let x = free c.args.voice in
    next (on x) c.self.invariant (on_console x _ _ _ _ c.free_voice.ensures)
