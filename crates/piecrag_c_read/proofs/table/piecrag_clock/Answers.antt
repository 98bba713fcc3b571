use mathlib.Core.Path.{refl}
use Rattle.model.specs.Call as call
use Rattle.memory.specs.Lent.{lent_state}
use Rattle.piecrag_c_read.proofs.Reading.{reads}
use Rattle.piecrag_c_read.proofs.table.piecrag_clock.Goals as goal

pub returns : goal.returns
returns c =
    let a = c.args in
    let r = c.clock in
    λ m. reads (λ s. lent_state s m) a.state.now (call.time r.result) call.time r.result c.state_in-s.ensures (r.ensures m) refl refl refl
