use Rattle.rules.proofs.OutcomeLaws.{render_takes}
use Rattle.rules.proofs.orders.render_takes_each_due_event_once.Goals as goal

pub returns : goal.returns
returns c = render_takes
