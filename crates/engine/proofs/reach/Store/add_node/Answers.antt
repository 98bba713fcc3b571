use Rattle.model.specs.Call.{add_node}
use Rattle.engine.proofs.Calls.{next}
use Rattle.engine.proofs.reach.Store.add_node.Goals as goal

pub invariant_of-self : goal.invariant_of-self
invariant_of-self c =
    let n = c.args.node in
    next (add_node c.args.kind.now n.ports n.required n.takes_values n.takes_glides) c.self.invariant c.add_node.ensures
