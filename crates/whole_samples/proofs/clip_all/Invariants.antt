-- `whole_samples::clip_all` meets its contract: the samples up to i are clipped, and the rest is as it was.
use Rattle.std.proofs.Common.{ℕ, List, get_or, ℤ, pos}
use Rattle.bus.proofs.Blocks.{Filling}
use Rattle.whole_bus.specs.Sample.{clipped}
use Rattle.whole_samples.proofs.clip_all.Given as goal

-- sample i, clipped
abbrev pub clipped_at : List ℤ → ℕ → ℤ
clipped_at out i = clipped (get_or out i (pos 0))

abbrev pub invariant-loop-y : goal.invariant-loop-y
invariant-loop-y l = Filling (clipped_at l.initial.out) l.initial.out l.out l.y-index
