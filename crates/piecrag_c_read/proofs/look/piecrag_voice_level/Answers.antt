use mathlib.Core.Path.{refl}
use Rattle.model.specs.Call as call
use Rattle.memory.specs.Lent.{lent_params}
use Rattle.piecrag_c_read.proofs.Reading.{reads}
use Rattle.piecrag_c_read.proofs.look.piecrag_voice_level.Goals as goal

pub returns : goal.returns
returns c =
    let a = c.args in
    let r = c.voice_level-l in
    λ m. reads (λ s. lent_params s a.nodes.now a.voices.now m) a.state.now (call.known r.result) call.known r.result c.state_in-s.ensures (r.ensures m) refl refl (c.put_cell.ensures.flag, c.put_cell.ensures.cell)
