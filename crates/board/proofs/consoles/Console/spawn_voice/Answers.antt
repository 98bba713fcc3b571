use Rattle.model.specs.Call.{spawned}
use Rattle.model.specs.Wish.{call_of}
use Rattle.console.specs.Console.{on}
use Rattle.board.proofs.Calls.{next}
use Rattle.board.proofs.Seals.{on_console}
use Rattle.board.proofs.consoles.Console.spawn_voice.Goals as goal

pub invariant_of-self : goal.invariant_of-self
invariant_of-self g c =
    let x = call_of c.args.wish.now in
    next (on x) c.self.invariant (on_console x c.self.inside.store (spawned c.spawn_voice.result) c.spawn_voice.new.self c.self.inside.keyboards c.spawn_voice.ensures)
