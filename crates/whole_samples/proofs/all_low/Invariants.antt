-- `whole_samples::all_low` meets its contract: by any test that `low` tells of, the bits so far and the numbers that are left make the test of all.
use Rattle.std.proofs.Common.{◌≡◌, ℕ, Bool, ltb}
use Rattle.whole_bus.proofs.Ranges.{Collected}
use Rattle.whole_samples.proofs.all_low.Given as goal

abbrev pub invariant-loop-x : goal.invariant-loop-x
invariant-loop-x g l =
    (test : g.row.A.Denot → Bool) → ((x : g.row.A.Denot) (r : ℕ) → g.F.Fn.post l.low (x, tt) r → ltb r 16777216 ≡ test x) → Collected test l.xs l.bits l.x-index
