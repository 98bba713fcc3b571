use Rattle.refusals.proofs.Host.{connect_refuses, disconnect_refuses}
use Rattle.refusals.proofs.wire_is_refused.Goals as goal

pub returns : goal.returns
returns c = record { connecting = connect_refuses; disconnecting = disconnect_refuses }
