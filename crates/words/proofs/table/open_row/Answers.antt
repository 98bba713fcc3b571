use Prim.Native.Nat.{◌+◌, ◌*◌, ◌<◌, ◌/◌, ◌-◌}
use native.Mathlib.Omega.{arith}
use mathlib.Core.Path.{◌≡◌, sym, ap, ◌∙◌}
use lib.ListN.{length, drop}
use lib.Seq.{paste}
use Rattle.std.proofs.Common.{add-mul, add-one}
use Rattle.words.proofs.Rows.{no_room}
use Rattle.words.proofs.InWords.{up_block, open_on, open_off, open_none}
use Rattle.words.proofs.table.open_row.Goals as goal
use Rattle.words.proofs.table.open_row.Goals.{else-w-gt0-via-then-w-gt0+then-n-t+else-p-n, else-w-gt0-via-then-w-gt0+else-n-t, else-w-gt0-via-else-w-gt0}

pub returns-then-p-n : goal.returns-then-p-n
returns-then-p-n c =
    let s = c.args in
    let t = s.t.now in
    let k = s.n - s.p in
    let all : s.p + k ≡ s.n = omega arith in
    let many : s.n * s.w - s.p * s.w ≡ k * s.w = omega (arith, ap (λ m. m * s.w) all, add-mul s.p k s.w) in
    let inside : s.p + k < length t / s.w = omega arith in
    c.copy_within.ensures.after
    ∙ ap (paste t ((s.p + 1) * s.w) (drop (s.p * s.w) t)) many
    ∙ ap (λ m. paste t (m * s.w) (drop (s.p * s.w) t) (k * s.w)) (add-one s.p)
    ∙ sym (up_block s.w k s.p t c.if-w-gt0.true inside)
    ∙ sym (open_on s.w s.n s.p t c.if-n-t.true)

pub returns-else-w-gt0 : goal.returns-else-w-gt0
returns-else-w-gt0 c =
    let s = c.args in
    sym
    (elim c.else-w-gt0.branch [
      | else-w-gt0-via-then-w-gt0+then-n-t+else-p-n w ↦ open_none s.w s.n s.p s.t.now w.if-p-n.false
      | else-w-gt0-via-then-w-gt0+else-n-t w ↦ open_off s.w s.n s.p s.t.now w.if-n-t.false
      | else-w-gt0-via-else-w-gt0 w ↦ open_off s.w s.n s.p s.t.now (no_room s.w s.n (length s.t.now) w.if-w-gt0.false)
    ])
