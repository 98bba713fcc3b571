use Prim.Native.Nat.{◌*◌}
use mathlib.Core.Path.{sym, ap, ◌∙◌}
use mathlib.Core.Logic.{inl, inr}
use lib.Seq.{sets}
use lib.ListN.{length}
use Rattle.words.specs.Rows.{cut}
use Rattle.words.proofs.Words.{apart, sets_self}
use Rattle.words.proofs.Rows.{row_fits, no_room, moved_is, moved_not}
use Rattle.words.proofs.table.move_row.Goals as goal
use Rattle.words.proofs.table.move_row.Goals.{else-w-gt0-via-then-w-gt0+then-from-t+then-to-t+else-from-to, else-w-gt0-via-then-w-gt0+then-from-t+else-to-t, else-w-gt0-via-then-w-gt0+else-from-t, else-w-gt0-via-else-w-gt0}

pub move_words-requires : goal.move_words-requires
move_words-requires c =
    let s = c.args in
    (row_fits s.w s.from s.t.now c.if-from-t.true, row_fits s.w s.to s.t.now c.if-to-t.true, apart s.w s.from s.to)

pub returns-then-from-to : goal.returns-then-from-to
returns-then-from-to c =
    let s = c.args in
    c.move_words.ensures ∙ sym (moved_is s.w s.from s.to s.t.now c.if-from-t.true c.if-to-t.true)

pub returns-else-w-gt0 : goal.returns-else-w-gt0
returns-else-w-gt0 c =
    let s = c.args in
    let t = s.t.now in
    sym
    (elim c.else-w-gt0.branch [
      | else-w-gt0-via-then-w-gt0+then-from-t+then-to-t+else-from-to w ↦
          moved_is s.w s.from s.to t w.if-from-t.true w.if-to-t.true
          ∙ ap (λ j. sets t (j * s.w) (cut s.w s.from t)) (sym w.if-from-to.false)
          ∙ sets_self s.w (s.from * s.w) t
      | else-w-gt0-via-then-w-gt0+then-from-t+else-to-t w ↦ moved_not s.w s.from s.to t (inr w.if-to-t.false)
      | else-w-gt0-via-then-w-gt0+else-from-t w ↦ moved_not s.w s.from s.to t (inl w.if-from-t.false)
      | else-w-gt0-via-else-w-gt0 w ↦ moved_not s.w s.from s.to t (inl (no_room s.w s.from (length t) w.if-w-gt0.false))
    ])
