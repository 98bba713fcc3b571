-- `bus::mix::fade_out` meets its contract: the samples up to i are faded, and the rest is as it was.
use Rattle.std.proofs.Common.{◌<◌, length, arith}
use Rattle.std.proofs.lemmas.List.{get_or_read}
use Rattle.bus.proofs.Blocks.{fill_none, fill_more}
use Rattle.bus.proofs.Fades.{may_both, times_both}
use Rattle.bus.proofs.mix.fade_out.Goals as goal

pub loop-i-init : goal.loop-i-init
loop-i-init g c = fill_none _ _

pub times-requires : goal.times-requires
times-requires g c =
    let within : c.loop-i.i < length c.args.source.now = omega arith in
    may_both g.N.Numbers.Multiplies (get_or_read c.args.source.now c.loop-i.i _ within c.index-source-i.is g.N.Numbers.past) c.no_gain.ensures (c.requires.1 c.loop-i.i)

pub loop-i-preserved : goal.loop-i-preserved
loop-i-preserved g c =
    let more : c.loop-i.i < length c.loop-i.out = omega arith in
    let within : c.loop-i.i < length c.args.source.now = omega arith in
    fill_more _ _ _ _ _ c.loop-i.invariant more
    (times_both g.N.Numbers.times c.times.ensures (get_or_read c.args.source.now c.loop-i.i _ within c.index-source-i.is g.N.Numbers.past) c.no_gain.ensures)
