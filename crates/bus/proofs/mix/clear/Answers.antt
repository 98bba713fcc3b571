-- `bus::mix::clear` meets its contract: the samples so far are silent, and the rest is as it was.
use Rattle.std.proofs.Common.{◌<◌, length, arith}
use Rattle.bus.proofs.Blocks.{fill_none, fill_more}
use Rattle.bus.proofs.mix.clear.Goals as goal

pub loop-y-init : goal.loop-y-init
loop-y-init g c = fill_none _ _

pub loop-y-preserved : goal.loop-y-preserved
loop-y-preserved g c =
    let o = c.loop-y in
    let more : o.y-index < length o.out = omega arith in
    fill_more _ _ _ _ _ o.invariant more c.silence.ensures
