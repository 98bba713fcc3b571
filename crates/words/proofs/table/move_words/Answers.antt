use Prim.Native.Nat.{◌-◌}
use native.Mathlib.Omega.{arith}
use mathlib.Core.Path.{◌≡◌}
use Rattle.words.proofs.Words.{moving_none, moving_next, moving_done}
use Rattle.words.proofs.table.move_words.Goals as goal

pub loop-k-init : goal.loop-k-init
loop-k-init c = moving_none c.args.t.now c.args.from c.args.to c.args.n

pub loop-k-preserved : goal.loop-k-preserved
loop-k-preserved c =
    let a = c.args in
    moving_next a.t.now a.from a.to a.n c.loop-k.t c.loop-k.k c.loop-k.invariant c.loop-k-test.true c.requires.0 c.requires.2

pub returns : goal.returns
returns c =
    let a = c.args in
    let l = c.loop-k in
    let none : a.n - l.k ≡ 0 = omega (arith, c.loop-k-test.false) in
    moving_done a.t.now a.from a.to a.n l.t _ _ _ l.invariant none
