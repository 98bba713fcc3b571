use Rattle.rules.proofs.EventLaws.{queue_always}
use Rattle.rules.proofs.events.pending_events_stand_in_the_order_of_their_times.Goals as goal

pub returns : goal.returns
returns c = queue_always
