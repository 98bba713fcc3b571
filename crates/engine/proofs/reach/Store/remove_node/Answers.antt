use Rattle.model.specs.Call.{remove_node}
use Rattle.engine.proofs.Calls.{next}
use Rattle.engine.proofs.reach.Store.remove_node.Goals as goal

pub invariant_of-self : goal.invariant_of-self
invariant_of-self c = next (remove_node c.args.node) c.self.invariant c.remove_node.ensures
