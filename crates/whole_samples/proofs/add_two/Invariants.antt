-- `whole_samples::add_two` meets its contract: the sums up to i have their two samples, whose bits are collected, and the rest is as it was.
use Rattle.std.proofs.Common.{◌≡◌, ℕ, ◌+◌, ◌%◌, List, length, get_or, ℤ, pos}
use Rattle.bus.proofs.Blocks.{Filling}
use Rattle.whole_bus.specs.Sample.{is_sample}
use Rattle.whole_bus.specs.Raised.{above_lowest}
use Rattle.whole_bus.proofs.Ranges.{Collected}
use Rattle.whole_samples.proofs.add_two.Given as goal

-- sum i with its samples
abbrev pub added : List ℤ → List ℤ → List ℕ → ℕ → ℕ
added a b sums i = (get_or sums i 0 + above_lowest (get_or a i (pos 0)) + above_lowest (get_or b i (pos 0))) % 4294967296

abbrev pub invariant-loop-i : goal.invariant-loop-i
invariant-loop-i l =
    Filling (added l.a l.b l.initial.sums) l.initial.sums l.sums l.i × Collected is_sample l.a l.first l.i × Collected is_sample l.b l.second l.i × (length l.a ≡ length l.initial.sums) × (length l.b ≡ length l.initial.sums)
