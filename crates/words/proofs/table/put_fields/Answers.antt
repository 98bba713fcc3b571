use mathlib.Core.Path.{◌∙◌}
use Rattle.words.proofs.Within.{put_in, put_short, put_past, put_out}
use Rattle.words.proofs.table.put_fields.Goals as goal
use Rattle.words.proofs.table.put_fields.Goals.{else-k-w-via-then-k-w+then-ws-w+else-i-t, else-k-w-via-then-k-w+else-ws-w, else-k-w-via-else-k-w}

pub returns-then-i-t : goal.returns-then-i-t
returns-then-i-t c = let s = c.args in c.put_words.ensures ∙ put_in s.w s.i s.k s.ws.now s.t.now c.if-k-w.true c.if-ws-w.true c.if-i-t.true

pub returns-else-k-w : goal.returns-else-k-w
returns-else-k-w c =
    let s = c.args in
    elim c.else-k-w.branch [
      | else-k-w-via-then-k-w+then-ws-w+else-i-t w ↦ put_past s.w s.i s.k s.ws.now s.t.now w.if-i-t.false
      | else-k-w-via-then-k-w+else-ws-w w ↦ put_short s.w s.i s.k s.ws.now s.t.now w.if-ws-w.false
      | else-k-w-via-else-k-w w ↦ put_out s.w s.i s.k s.ws.now s.t.now w.if-k-w.false
    ]
