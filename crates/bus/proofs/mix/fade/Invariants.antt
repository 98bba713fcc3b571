-- `bus::mix::fade` meets its contract: the channels before c are written, and the rest is as it was.
use Rattle.bus.specs.Fade.{faded_of_by}
use Rattle.bus.proofs.Blocks.{Laying}
use Rattle.bus.proofs.mix.fade.Given as goal

abbrev pub invariant-loop-c : goal.invariant-loop-c
invariant-loop-c g l =
    let N = g.N.Numbers in
    Laying l.size (faded_of_by N.times N.past N.no_gain l.input l.p.ins l.gains l.len l.p.position l.size) l.initial.out l.out l.c
