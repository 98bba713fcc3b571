use Rattle.board.proofs.Queues.{fresh}
use Rattle.board.proofs.keyboards.Keyboards.new.Goals as goal

pub returns : goal.returns
returns g c = fresh c.default.result c.args.count _ c.default.ensures c.requires
