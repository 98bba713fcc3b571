-- `bus::mix::add_channel` meets its contract: the samples up to i are added, and the rest is as it was.
use Rattle.std.proofs.Common.{◌<◌, length, get_or, ap, ◌∙◌, arith}
use Rattle.std.proofs.lemmas.List.{get_or_default, get_or_read}
use Rattle.bus.proofs.Blocks.{fill_none, fill_next, fill_more}
use Rattle.bus.proofs.mix.add_channel.Goals as goal

pub loop-i-init : goal.loop-i-init
loop-i-init g c = fill_none _ _

pub loop-i-preserved : goal.loop-i-preserved
loop-i-preserved g c =
    let o = c.loop-i in
    let N = g.N.Numbers in
    let more : o.i < length o.out = omega arith in
    let within : o.i < length c.args.source.now = omega arith in
    fill_more _ _ _ _ _ o.invariant more
    (c.plus.ensures
    ∙ ap (λ x. N.plus x c.index-source-i.result) (get_or_default o.out o.i _ N.past more ∙ fill_next _ _ _ o.i N.past o.invariant more)
    ∙ ap (N.plus (get_or c.args.out.now o.i N.past)) (get_or_read c.args.source.now o.i _ within c.index-source-i.is N.past))
