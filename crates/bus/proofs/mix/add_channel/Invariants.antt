-- `bus::mix::add_channel` meets its contract: the samples up to i are added, and the rest is as it was.
use Rattle.std.proofs.Common.{get_or}
use Rattle.bus.proofs.Blocks.{Filling}
use Rattle.bus.proofs.mix.add_channel.Given as goal

abbrev pub invariant-loop-i : goal.invariant-loop-i
invariant-loop-i g l =
    let N = g.N.Numbers in
    Filling (λ i. N.plus (get_or l.initial.out i N.past) (get_or l.source i N.past)) l.initial.out l.out l.i
