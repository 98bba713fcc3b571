-- `level::sum_of_squares` meets its contract. The loop's invariant: the sum so far with the squares that are left is the sum of all.
use mathlib.Core.Path.{◌≡◌}
use lib.ListN.{drop}
use Rattle.level.specs.Level.{plus_zero, squares}
use Rattle.level.proofs.sum_of_squares.Given as goal

abbrev pub invariant-loop-sample : goal.invariant-loop-sample
invariant-loop-sample l = squares l.sum (drop l.sample-index l.samples) ≡ squares plus_zero l.samples
