-- `whole_samples::clip_all` meets its contract: the samples so far are clipped, and the rest is as it was.
use Rattle.std.proofs.Common.{◌<◌, length, get_or, pos, ap, ◌∙◌, w32, arith}
use mir.ValLaws.{to_z-of_z}
use Rattle.bus.proofs.Blocks.{fill_none, fill_next, fill_more}
use Rattle.whole_bus.specs.Sample.{clipped}
use Rattle.whole_samples.proofs.clip_all.Goals as goal

pub loop-y-init : goal.loop-y-init
loop-y-init c = fill_none _ _

pub loop-y-preserved : goal.loop-y-preserved
loop-y-preserved c =
    let o = c.loop-y in
    let more : o.y-index < length o.out = omega arith in
    let x = get_or o.out o.y-index (pos 0) in
    let read = to_z-of_z w32 x (record { sfits = c.clip-arg-1.given }) ∙ fill_next _ _ _ o.y-index (pos 0) o.invariant more in
    let stored = to_z-of_z w32 c.clip.result (record { sfits = c.clip.type_inv }) in
    fill_more _ _ _ _ _ o.invariant more (stored ∙ c.clip.ensures ∙ ap clipped read)
