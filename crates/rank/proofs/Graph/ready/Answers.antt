use Prim.Native.Nat.{◌≤◌, ◌<◌}
use native.Mathlib.Omega.{arith}
use mathlib.Core.Path.{◌≡◌, sym, ◌∙◌}
use mathlib.Core.List.{append-nil}
use lib.ListN.{length, take, length-take}
use borrow.Author.Rules.{rules}
use Rattle.std.proofs.lemmas.List.{drop_more}
use Rattle.rank.specs.Parts.{ready}
use Rattle.rank.proofs.Laws.{no_row, fill_hit, fill_miss}
use Rattle.rank.proofs.Graph.ready.Goals as goal
use Rattle.rank.proofs.Graph.ready.Goals.{then-k-eq0, else-k-eq0}

pub loop-v-preserved : goal.loop-v-preserved
loop-v-preserved c =
    let l = c.loop-v in
    let n = c.args.self.now.n in
    let cs = c.args.counts.now in
    let long : length cs ≡ 512 = search rules in
    let below : l.v < length (take n cs) = omega arith in
    let dr = drop_more (take n cs) l.v 0 below in
    elim c.if-k-eq0.branch [
      | then-k-eq0 w ↦ rw (w.queue-is, w.push.ensures.stored, w.push.ensures.counted (omega arith)) (fill_hit l.queue.rows l.queue.count l.v (take n cs) _ dr l.invariant w.if-k-eq0.true (omega (arith, c.args.self.now.few, length-take n cs)))
      | else-k-eq0 w ↦ rw w.queue-is (fill_miss l.queue.rows l.queue.count l.v (take n cs) _ dr l.invariant w.if-k-eq0.false)
    ]

pub returns : goal.returns
unfolding ready
returns c =
    let l = c.loop-v in
    let n = c.args.self.now.n in
    let cs = c.args.counts.now in
    let long : length cs ≡ 512 = search rules in
    let h : n ≤ l.v = omega (arith, length-take n cs, c.args.self.now.few, long) in
    let e = rw (no_row cs n l.v h) at l.invariant.2 in
    record { long = l.invariant.0; few = simp length-take (omega (arith, c.args.self.now.few, long)); is = sym (append-nil _) ∙ e }
