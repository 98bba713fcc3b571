-- `bus::total_channels` meets its contract: the counts so far are 1 or 2, and with what is left of them n makes the sum.
use Rattle.std.proofs.Common.{◌≡◌, ◌+◌, ◌*◌, ◌≤◌, drop}
use Rattle.bus.specs.Sum.{channels, every_is_channels}
use Rattle.bus.proofs.total_channels.Given as goal

abbrev pub invariant-loop-n : goal.invariant-loop-n
invariant-loop-n l =
    (l.total ≤ 2 * l.n-index) × (l.total + channels (drop l.n-index l.counts) ≡ channels l.counts) × (every_is_channels (drop l.n-index l.counts) ≡ every_is_channels l.counts)
