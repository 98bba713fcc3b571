use Rattle.memory.specs.Lent.{lent_graph}
use Rattle.memory.specs.Called.{answered}
use Rattle.call_seal.proofs.Boards.{kept_open}
use Rattle.call_seal.proofs.host.disconnect.Goals as goal

pub returns-clause-same : goal.returns-clause-same
returns-clause-same c =
    let a = c.args in
    let got = c.disconnect in
    λ m w words. kept_open answered got.result.answer c.open.result.answer (λ k. lent_graph k a.nodes.now got.new.edges m) got.result.state c.open.result.state (lent_graph a.s a.nodes.now a.edges.now m) c.open.ensures (got.ensures.same m) w words a.x
