use mathlib.Core.Path.{ap, ◌∙◌}
use lib.ListN.{set}
use Rattle.words.proofs.Rows.{put_is}
use Rattle.steal_log.specs.Rows.{steal_of, records_in}
use Rattle.steal_log.proofs.put_record.Goals as goal

pub returns : goal.returns
returns c =
    let s = c.args in
    let ws = c.record_words in
    ap records_in c.put_row.ensures
    ∙ put_is 5 steal_of s.t.now ws.result s.i ws.ensures.long
    ∙ ap (set (records_in s.t.now) s.i) ws.ensures.back
