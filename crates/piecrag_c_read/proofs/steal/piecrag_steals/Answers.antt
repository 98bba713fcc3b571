use mathlib.Core.Path.{refl}
use Rattle.model.specs.Call as call
use Rattle.memory.specs.Lent.{lent_steals}
use Rattle.voice.specs.Steals.{log_of}
use Rattle.piecrag_c_read.proofs.Reading.{reads}
use Rattle.piecrag_c_read.proofs.steal.piecrag_steals.Goals as goal

pub returns : goal.returns
returns c =
    let a = c.args in
    let r = c.steals-r in
    λ m. reads (λ s. lent_steals s a.steals.now m) a.state.now (call.stolen (log_of r.result)) call.stolen (log_of r.result) c.state_in-s.ensures (r.ensures m) refl refl (refl, c.held_steals.ensures)
