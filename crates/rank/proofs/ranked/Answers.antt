-- `rank::ranked` meets its contract, by the laws of proofs/Counts.antt.
use Prim.Native.Nat.{ℕ, ◌≤◌, min}
use mathlib.Core.Path.{◌≡◌, ap, ◌∙◌}
use native.Mathlib.Omega.{arith}
use lib.ListN.{length}
use Rattle.rank.proofs.Counts.{take_arcs, ranking}
use Rattle.rank.proofs.ranked.Goals as goal

pub returns : goal.returns
returns c =
    let a = c.args in
    let k = c.min-k in
    let m = c.min-m in
    let h : k.result ≤ 512 = omega arith in
    let e : m.result ≡ min (min (length a.from.now) (length a.to.now)) 1024 = m.ensures ∙ ap (λ (x : ℕ). min x 1024) c.min.ensures in
    let r = ranking c.queued-rows.result k.result _ h c.queued-rows.ensures in
    rw (← k.ensures, ← (take_arcs a.from.now a.to.now m.result e)) record { is = r.is; all = r.all; sized = (r.long, r.many) }
