use mathlib.Core.Path.{ap, ◌∙◌}
use Rattle.voice_rows.specs.Rows.{voices_in}
use Rattle.voice_rows.proofs.Words.{state_put}
use Rattle.voice_rows.proofs.row.put_state.Goals as goal

pub returns : goal.returns
returns c =
    let s = c.args in
    let ws = c.state_words in
    ap voices_in c.put_fields.ensures ∙ state_put s.t.now ws.result s.i s.s ws.ensures
