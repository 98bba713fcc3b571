-- `whole_samples::clip_sums` meets its contract: the samples up to i are clipped, and the rest is as it was.
use Rattle.std.proofs.Common.{◌≡◌, ℕ, ◌<◌, List, length, get_or, ℤ, pos, ◌-ℤ◌}
use Rattle.bus.proofs.Blocks.{Filling}
use Rattle.whole_bus.specs.Sample.{clipped}
use Rattle.whole_samples.proofs.clip_sums.Given as goal

-- sample j
abbrev pub clipped_to : List ℕ → ℕ → ℕ → ℤ
clipped_to sums raised j = clipped (pos (get_or sums j 0) -ℤ pos raised)

abbrev pub invariant-loop-i : goal.invariant-loop-i
invariant-loop-i l = Filling (clipped_to l.sums l.raised) l.initial.out l.out l.i × (length l.sums ≡ length l.initial.out) × ((j : ℕ) → get_or l.sums j 0 < 2147483648) × (l.raised < 2147483648)
