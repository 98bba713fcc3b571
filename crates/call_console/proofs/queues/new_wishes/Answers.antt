use Rattle.call_console.proofs.Rings.{new_is}
use Rattle.call_console.proofs.queues.new_wishes.Goals as goal

pub returns : goal.returns
returns c = λ h words. new_is c.args.keyboards words h
