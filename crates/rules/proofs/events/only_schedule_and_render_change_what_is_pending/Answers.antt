use Rattle.rules.proofs.EventLaws.{pending_always}
use Rattle.rules.proofs.events.only_schedule_and_render_change_what_is_pending.Goals as goal

pub returns : goal.returns
returns c = pending_always
