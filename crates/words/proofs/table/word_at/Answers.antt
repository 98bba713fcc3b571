use mathlib.Core.Path.{sym}
use mathlib.Core.Logic.{inl, inr}
use lib.ListN.{length}
use Rattle.words.proofs.Rows.{no_room, at_word, no_word}
use Rattle.words.proofs.table.word_at.Goals as goal
use Rattle.words.proofs.table.word_at.Goals.{else-w-gt0-via-then-w-gt0+then-i-t+else-k-w, else-w-gt0-via-then-w-gt0+else-i-t, else-w-gt0-via-else-w-gt0}

pub returns-then-k-w : goal.returns-then-k-w
returns-then-k-w c = let s = c.args in sym (at_word s.w s.i s.k s.t.now c.if-i-t.true c.if-k-w.true)

pub returns-else-w-gt0 : goal.returns-else-w-gt0
returns-else-w-gt0 c =
    let s = c.args in
    sym
    (elim c.else-w-gt0.branch [
      | else-w-gt0-via-then-w-gt0+then-i-t+else-k-w w ↦ no_word s.w s.i s.k s.t.now (inr w.if-k-w.false)
      | else-w-gt0-via-then-w-gt0+else-i-t w ↦ no_word s.w s.i s.k s.t.now (inl w.if-i-t.false)
      | else-w-gt0-via-else-w-gt0 w ↦ no_word s.w s.i s.k s.t.now (inl (no_room s.w s.i (length s.t.now) w.if-w-gt0.false))
    ])
