use Rattle.memory.specs.Lent.{lent_nodes}
use Rattle.memory.specs.Called.{add_answered}
use Rattle.call_seal.proofs.Boards.{kept_open}
use Rattle.call_seal.proofs.host.add_node.Goals as goal

pub returns-clause-same : goal.returns-clause-same
returns-clause-same c =
    let a = c.args in
    let got = c.add_node in
    λ m w words. kept_open add_answered got.result.answer c.open.result.answer (λ k. lent_nodes k got.new.nodes m) got.result.state c.open.result.state (lent_nodes a.s a.nodes.now m) c.open.ensures (got.ensures.same m) w words a.x
