use Prim.Native.Nat.{◌/◌, ◌≤◌, min}
use native.Mathlib.Omega.{arith}
use mathlib.Core.Path.{◌≡◌, refl, sym, ap, ◌∙◌}
use lib.ListN.{length}
use Rattle.words.proofs.Rows.{moved_long}
use Rattle.words.proofs.Place.{closed}
use Rattle.words.proofs.InWords.{words_keep, words_drop}
use Rattle.words.proofs.Gaps.{close_begun}
use Rattle.words.proofs.table.close_gaps.Goals as goal
use Rattle.words.proofs.table.close_gaps.Goals.{then-stays, else-stays}

pub loop-i-init : goal.loop-i-init
loop-i-init g c =
    let s = c.args in
    let n = c.row_count-n.result in
    let e : n ≡ min s.count (length s.t.now / s.w) = c.row_count-n.ensures in
    (omega arith, refl, λ q tells stay. close_begun s.w (λ ws. ws) q s.t.now s.count n e s.from c.min-to.result c.min-to.ensures stay)

pub loop-i-preserved : goal.loop-i-preserved
loop-i-preserved g c =
    let s = c.args in
    let l = c.loop-i in
    let n = c.row_count-n.result in
    let e : n ≡ min s.count (length s.t.now / s.w) = c.row_count-n.ensures in
    let fits : n ≤ length s.t.now / s.w = omega arith in
    elim c.if-stays.branch [
      | then-stays w ↦
          rw (w.t-is, w.to-is) (
            omega (arith, l.invariant.0),
            ap length w.move_row.ensures ∙ moved_long s.w l.i l.to l.t ∙ l.invariant.1,
            λ q tells stay. words_keep s.w (λ ws. ws) q s.t.now l.t n l.i l.to fits c.loop-i-test.true (l.invariant.2 q tells stay) w.move_row.new.t w.move_row.ensures (sym (tells _ l.i c.stays.result c.stays.ensures) ∙ w.if-stays.true),
          )
      | else-stays w ↦
          rw (w.t-is, w.to-is) (
            omega (arith, l.invariant.0),
            l.invariant.1,
            λ q tells stay. words_drop s.w (λ ws. ws) q s.t.now l.t n l.i l.to fits c.loop-i-test.true (l.invariant.2 q tells stay) (sym (tells _ l.i c.stays.result c.stays.ensures) ∙ w.if-stays.false),
          )
    ]

pub returns : goal.returns
returns g c q tells stay =
    let s = c.args in
    let l = c.loop-i in
    let n = c.row_count-n.result in
    let e : n ≡ min s.count (length s.t.now / s.w) = c.row_count-n.ensures in
    closed s.w (λ ws. ws) s.t.now l.t q s.count n l.i l.to e c.loop-i-test.false (l.invariant.2 q tells stay)
