use Rattle.memory.specs.Lent.{lent_spawn}
use Rattle.model.specs.Call.{spawned}
use Rattle.call_seal.proofs.Boards.{kept_open}
use Rattle.call_seal.proofs.spawn.spawn.Goals as goal

pub returns-clause-same : goal.returns-clause-same
returns-clause-same c =
    let a = c.args in
    let got = c.spawn_voice in
    λ m w words. kept_open spawned got.result.answer c.open.result.answer (λ k. lent_spawn k got.new.nodes got.new.edges got.new.voices got.new.steals m) got.result.state c.open.result.state (lent_spawn a.s a.nodes.now a.edges.now a.voices.now a.steals.now m) c.open.ensures (got.ensures.same m) w words a.x
