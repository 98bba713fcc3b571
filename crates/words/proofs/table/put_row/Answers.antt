use mathlib.Core.Path.{sym, ◌∙◌}
use mathlib.Core.Logic.{inl, inr}
use lib.ListN.{length}
use Rattle.words.proofs.Rows.{no_room, put_on, put_off}
use Rattle.words.proofs.table.put_row.Goals as goal
use Rattle.words.proofs.table.put_row.Goals.{else-w-gt0-via-then-w-gt0+then-i-t+else-ws-w, else-w-gt0-via-then-w-gt0+else-i-t, else-w-gt0-via-else-w-gt0}

pub returns-then-ws-w : goal.returns-then-ws-w
returns-then-ws-w c = let s = c.args in c.put_words.ensures ∙ sym (put_on s.w s.i s.ws.now s.t.now c.if-i-t.true c.if-ws-w.true)

pub returns-else-w-gt0 : goal.returns-else-w-gt0
returns-else-w-gt0 c =
    let s = c.args in
    sym
    (elim c.else-w-gt0.branch [
      | else-w-gt0-via-then-w-gt0+then-i-t+else-ws-w w ↦ put_off s.w s.i s.ws.now s.t.now (inr w.if-ws-w.false)
      | else-w-gt0-via-then-w-gt0+else-i-t w ↦ put_off s.w s.i s.ws.now s.t.now (inl w.if-i-t.false)
      | else-w-gt0-via-else-w-gt0 w ↦ put_off s.w s.i s.ws.now s.t.now (inl (no_room s.w s.i (length s.t.now) w.if-w-gt0.false))
    ])
