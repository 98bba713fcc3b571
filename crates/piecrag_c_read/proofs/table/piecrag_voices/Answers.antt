use mathlib.Core.Path.{refl, ap}
use Rattle.model.specs.Call as call
use Rattle.memory.specs.Lent.{lent_voice_table}
use Rattle.voice_rows.specs.Rows.{voices_in}
use lib.ListN.{take}
use Rattle.piecrag_c_read.proofs.Reading.{reads}
use Rattle.piecrag_c_read.proofs.table.piecrag_voices.Goals as goal

pub returns : goal.returns
returns c =
    let a = c.args in
    let r = c.voices in
    λ m. reads (λ s. lent_voice_table s a.voices.now m) a.state.now (call.all (take r.result (voices_in a.voices.now))) call.all (take c.state_in-s.result.voices (voices_in a.voices.now)) c.state_in-s.ensures (r.ensures.is m) (ap call.all r.ensures.count.is) refl r.ensures.count
