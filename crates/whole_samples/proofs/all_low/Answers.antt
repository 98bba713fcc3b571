-- `whole_samples::all_low` meets its contract: by any test that `low` tells of, the bits so far and the numbers that are left make the test of all.
use Rattle.std.proofs.Common.{ap, ◌∙◌}
use Rattle.whole_bus.proofs.Ranges.{collect_none, collect_more, collect_all}
use Rattle.whole_samples.proofs.all_low.Goals as goal

pub loop-x-init : goal.loop-x-init
loop-x-init g c test h = collect_none test _

pub loop-x-preserved : goal.loop-x-preserved
loop-x-preserved g c test h =
    let o = c.loop-x in
    collect_more test _ _ _ _ c.x-item.result (o.invariant test h) c.loop-x-test.true (h c.x-item.result c.low-bits.result c.low-bits.ensures ∙ ap test c.x-item.is)

pub returns : goal.returns
returns g c test h = collect_all test _ _ _ (c.loop-x.invariant test h) c.loop-x-test.false
