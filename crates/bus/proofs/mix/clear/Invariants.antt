-- `bus::mix::clear` meets its contract: the samples so far are silent, and the rest is as it was.
use Rattle.bus.proofs.Blocks.{Filling}
use Rattle.bus.proofs.mix.clear.Given as goal

abbrev pub invariant-loop-y : goal.invariant-loop-y
invariant-loop-y g l = Filling (λ i. g.N.Numbers.silence) l.initial.out l.out l.y-index
