use Rattle.model.specs.Call.{clear, removed}
use Rattle.console.specs.Console.{on}
use Rattle.board.proofs.Calls.{next}
use Rattle.board.proofs.Seals.{on_console}
use Rattle.board.proofs.consoles.Console.free_done_synths.Goals as goal

pub invariant_of-self : goal.invariant_of-self
invariant_of-self g c =
    let x = clear in
    next (on x) c.self.invariant (on_console x c.self.inside.store (removed c.free_done_synths.result) c.free_done_synths.new.self c.self.inside.keyboards c.free_done_synths.ensures)
