use Rattle.refusals.proofs.Host.{add_refuses, remove_refuses, sink_refuses}
use Rattle.refusals.proofs.node_is_refused.Goals as goal

pub returns : goal.returns
returns c = record { adding = add_refuses; removing = remove_refuses; sink = sink_refuses }
