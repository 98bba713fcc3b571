-- `level::root_digits` meets its contract. The loop's invariant is `Found`, and a turn finds one more digit.
use Prim.Native.Nat.{◌<◌}
use native.Mathlib.Omega.{arith}
use Rattle.level.proofs.Turns.{zero_digit, one_digit, few, done}
use Rattle.level.proofs.root_digits.Goals as goal
use Rattle.level.proofs.root_digits.Goals.{In-loop-root}

-- in a turn fewer than 85 digits have been found
turns : (c : In-loop-root) → c.loop-root.turns < 85
turns c = few c.args.a c.loop-root.m c.loop-root.root c.loop-root.rest c.loop-root.turns c.requires c.loop-root.invariant c.loop-root-test.true

pub overflow_add-turns : goal.overflow_add-turns
overflow_add-turns c = omega (arith, turns c)

pub loop-root-smaller-then-v-t : goal.loop-root-smaller-then-v-t
loop-root-smaller-then-v-t c = omega (arith, turns (goal.at.loop-root-smaller-then-v-t c).In-loop-root)

pub loop-root-preserved-then-v-t : goal.loop-root-preserved-then-v-t
loop-root-preserved-then-v-t c = let l = c.loop-root in zero_digit c.args.a l.m l.root l.rest l.turns l.invariant c.loop-root-test.true c.if-v-t.true

pub loop-root-smaller : goal.loop-root-smaller
loop-root-smaller c = omega (arith, turns (goal.at.loop-root-smaller c).In-loop-root)

pub loop-root-preserved : goal.loop-root-preserved
loop-root-preserved c = let l = c.loop-root in one_digit c.args.a l.m l.root l.rest l.turns l.invariant c.loop-root-test.true c.if-v-t.false

pub returns : goal.returns
returns c = let l = c.loop-root in done c.args.a l.m l.root l.rest l.turns (omega arith) l.invariant c.loop-root-test.false
