use Rattle.std.proofs.Common.{ap, ◌∙◌}
use Rattle.std.proofs.Math.ListN.{set}
use Rattle.words.proofs.Rows.{put_is}
use Rattle.event_table.specs.Rows.{event_of, events_in}
use Rattle.event_table.proofs.row.put_event.Goals as goal

pub returns : goal.returns
returns c =
    let t = c.args.t.now in
    let ws = c.event_words in
    ap events_in c.put_row.ensures
    ∙ put_is 15 event_of t ws.result c.args.i ws.ensures.long
    ∙ ap (set (events_in t) c.args.i) ws.ensures.back
