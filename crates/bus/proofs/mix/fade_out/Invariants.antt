-- `bus::mix::fade_out` meets its contract: the samples up to i are faded, and the rest is as it was.
use Rattle.std.proofs.Common.{get_or}
use Rattle.bus.proofs.Blocks.{Filling}
use Rattle.bus.proofs.mix.fade_out.Given as goal

abbrev pub invariant-loop-i : goal.invariant-loop-i
invariant-loop-i g l =
    let N = g.N.Numbers in
    Filling (λ i. N.times (get_or l.source i N.past) N.no_gain) l.initial.out l.out l.i
