use Rattle.refusals.proofs.Host.{schedule_refuses}
use Rattle.refusals.proofs.event_is_refused.Goals as goal

pub returns : goal.returns
returns c = schedule_refuses
