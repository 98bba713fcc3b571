use Rattle.refusals.proofs.Host.{free_never, clear_never, order_never}
use Rattle.refusals.proofs.nothing_is_refused.Goals as goal

pub returns : goal.returns
returns c = record { free = free_never; clearing = clear_never; order = order_never }
