use mathlib.Core.Path.{ap, ◌∙◌}
use lib.ListN.{set}
use Rattle.words.proofs.Rows.{put_is}
use Rattle.wish_rows.specs.Rows.{wish_of, wishes_in}
use Rattle.wish_rows.proofs.row.put_wish.Goals as goal

pub returns : goal.returns
returns c =
    let s = c.args in
    let ws = c.wish_words in
    ap wishes_in c.put_row.ensures
    ∙ put_is 243 wish_of s.t.now ws.result s.i ws.ensures.long
    ∙ ap (set (wishes_in s.t.now) s.i) ws.ensures.back
