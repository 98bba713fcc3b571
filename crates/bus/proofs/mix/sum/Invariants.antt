-- `bus::mix::sum` meets its contract: the channels before c are written, and the rest is as it was.
use Rattle.bus.specs.Sum.{summed_by}
use Rattle.bus.proofs.Blocks.{Laying}
use Rattle.bus.proofs.mix.sum.Given as goal

abbrev pub invariant-loop-c : goal.invariant-loop-c
invariant-loop-c g l =
    let N = g.N.Numbers in
    Laying l.size (λ k i. summed_by N.plus N.past N.silence l.size k i l.inputs l.counts) l.initial.out l.out l.c
