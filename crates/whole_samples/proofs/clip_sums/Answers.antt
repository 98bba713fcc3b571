-- `whole_samples::clip_sums` meets its contract: the samples up to i are clipped, and the rest is as it was.
use Rattle.std.proofs.Common.{◌<◌, length, ap, ◌∙◌, w32, arith}
use mir.ValLaws.{to_z-of_z}
use Rattle.bus.proofs.Blocks.{fill_none, fill_more}
use Rattle.whole_bus.specs.Sample.{clipped}
use Rattle.whole_bus.proofs.Machine.{less_read}
use Rattle.whole_samples.proofs.clip_sums.Goals as goal

pub loop-i-init : goal.loop-i-init
loop-i-init c = let p = c.requires in (fill_none _ _, p.0, p.1, p.2)

pub loop-i-preserved : goal.loop-i-preserved
loop-i-preserved c =
    let loop = c.loop-i in
    let more : loop.i < length loop.out = omega arith in
    let stored = to_z-of_z w32 c.clip.result (record { sfits = c.clip.type_inv }) in
    let value = stored ∙ c.clip.ensures ∙ ap clipped (less_read _ _ (loop.invariant.2 loop.i) loop.invariant.3) in
    (fill_more _ _ _ _ _ loop.invariant.0 more value, loop.invariant.1, loop.invariant.2, loop.invariant.3)
