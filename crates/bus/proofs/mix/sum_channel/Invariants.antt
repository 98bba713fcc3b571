-- `bus::mix::sum_channel` meets its contract: the inputs so far are added, and those after them make the sum whole.
use Rattle.bus.proofs.Sums.{Summing}
use Rattle.bus.proofs.mix.sum_channel.Given as goal

abbrev pub invariant-loop-n : goal.invariant-loop-n
invariant-loop-n g l =
    let N = g.N.Numbers in
    Summing N.plus N.past N.silence l.size l.c l.inputs l.counts l.out l.at l.n-index
