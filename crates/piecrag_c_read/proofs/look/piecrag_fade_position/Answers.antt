use mathlib.Core.Path.{refl}
use Rattle.model.specs.Call as call
use Rattle.memory.specs.Lent.{lent_voice_table}
use Rattle.piecrag_c_read.proofs.Reading.{reads}
use Rattle.piecrag_c_read.proofs.look.piecrag_fade_position.Goals as goal

pub returns : goal.returns
returns c =
    let a = c.args in
    let r = c.fade_position-p in
    λ m. reads (λ s. lent_voice_table s a.voices.now m) a.state.now (call.reached r.result) call.reached r.result c.state_in-s.ensures (r.ensures m) refl refl (c.put_cell.ensures.flag, c.put_cell.ensures.cell)
