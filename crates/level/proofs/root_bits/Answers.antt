-- `level::root_bits` meets its contract, by `proofs/Rooting.antt`.
use Prim.Native.Nat.{◌<◌}
use native.Mathlib.Omega.{arith}
use Rattle.level.proofs.Rooting.{turns, bits_up, bits_same}
use Rattle.level.proofs.root_bits.Goals as goal
use Rattle.level.proofs.root_bits.Goals.{After-root_digits-d}

few : (c : After-root_digits-d) → c.root_digits-d.result.turns < 80
few c = let o = c.root_digits-d.result in let a = c.args in let p = c.requires in turns a.m a.e o.root o.rest o.turns p.0 p.1 p.2 c.root_digits-d.ensures

pub overflow_sub-k : goal.overflow_sub-k
overflow_sub-k c = omega (arith, few (goal.at.overflow_sub-k c).After-root_digits-d)

pub returns-then-d : goal.returns-then-d
returns-then-d c =
    let d = c.before.before.before.before in
    let o = d.root_digits-d.result in
    let a = d.args in
    let p = d.requires in
    (omega (arith, d.root_digits-d.ensures.small, p.2), bits_up a.m a.e o.root o.rest o.turns p.0 p.1 p.2 d.root_digits-d.ensures c.if-d.true)

pub returns : goal.returns
returns c =
    let d = c.before.before.before.before in
    let o = d.root_digits-d.result in
    let a = d.args in
    let p = d.requires in
    (omega (arith, d.root_digits-d.ensures.small, p.2), bits_same a.m a.e o.root o.rest o.turns p.0 p.1 p.2 d.root_digits-d.ensures c.if-d.false)
