-- `level::root_digits` meets its contract. The loop's invariant is `Found`, and a turn finds one more digit.
use Prim.Native.Nat.{◌-◌}
use Rattle.level.proofs.Turns.{Found}
use Rattle.level.proofs.root_digits.Given as goal

abbrev pub invariant-loop-root : goal.invariant-loop-root
invariant-loop-root l = Found l.a l.m l.root l.rest l.turns

abbrev pub decreases-loop-root : goal.decreases-loop-root
decreases-loop-root l = 85 - l.turns
