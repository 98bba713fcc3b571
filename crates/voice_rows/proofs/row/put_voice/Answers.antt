use mathlib.Core.Path.{ap, ◌∙◌}
use lib.ListN.{set}
use Rattle.words.proofs.Rows.{put_is}
use Rattle.voice_rows.specs.Rows.{voice_of, voices_in}
use Rattle.voice_rows.proofs.row.put_voice.Goals as goal

pub returns : goal.returns
returns c =
    let s = c.args in
    let ws = c.voice_words in
    ap voices_in c.put_row.ensures
    ∙ put_is 143 voice_of s.t.now ws.result s.i ws.ensures.long
    ∙ ap (set (voices_in s.t.now) s.i) ws.ensures.back
