-- `bus::mix::sum` meets its contract: the channels before c are written, and the rest is as it was.
use Rattle.std.proofs.Common.{◌≡◌, ◌+◌, ◌-◌, ◌*◌, ◌≤◌, T, length, sym, ◌∙◌, mul-le-mul_right, arith}
use prog.Memory.{size}
use denote.Param.{layout}
use Rattle.bus.specs.Sum.{channels, every_is_channels}
use Rattle.bus.proofs.Blocks.{room, length_part, lay_none, lay_more, lay_all, left_new}
use Rattle.bus.proofs.Sums.{sum_fits_says}
use Rattle.bus.proofs.mix.sum.Given.{Over}
use Rattle.bus.proofs.mix.sum.Goals as goal
use Rattle.bus.proofs.mix.sum.Goals.{In-loop-c}

fits : (g : Over) (c : In-loop-c g) → T (every_is_channels c.args.counts.now) × (length c.args.inputs.now ≡ channels c.args.counts.now * c.args.size) × (length c.args.out.now ≡ c.args.outs * c.args.size)
fits g c = sum_fits_says _ _ _ _ _ (sym c.sum_fits.ensures ∙ c.if-not-sum_fits.false)

-- the channel at hand lies within the output
within : (g : Over) (c : In-loop-c g) → c.loop-c.c * c.args.size + c.args.size ≤ length c.args.out.now
within g c = room c.args.outs c.args.size c.loop-c.c _ (fits g c).2 c.loop-c-test.true

pub loop-c-init : goal.loop-c-init
loop-c-init g c = lay_none _ _ _

pub overflow_mul-to : goal.overflow_mul-to
overflow_mul-to g c = omega (arith, within g (goal.at.overflow_mul-to g c).In-loop-c)

pub overflow_add-to : goal.overflow_add-to
overflow_add-to g c = omega (arith, within g (goal.at.overflow_add-to g c).In-loop-c)

pub offset_bounds-out-to : goal.offset_bounds-out-to
offset_bounds-out-to g c =
    let inside = within g (goal.at.offset_bounds-out-to g c).In-loop-c in
    let w : c.loop-c.c * c.args.size ≤ length c.args.out.now = omega (arith, inside) in
    omega (arith, mul-le-mul_right (size (layout g.row.N-Sample)) w, c.loop-c.auto.out)

pub slice_bounds-sum_channel-end : goal.slice_bounds-sum_channel-end
slice_bounds-sum_channel-end g c = omega (arith, within g (goal.at.slice_bounds-sum_channel-end g c).In-loop-c, c.loop-c.invariant.long)

pub sum_channel-requires : goal.sum_channel-requires
sum_channel-requires g c =
    let o = c.args in
    let f = fits g (goal.at.sum_channel-requires g c).In-loop-c in
    let to = c.loop-c.c * o.size in
    let k : to + o.size - to ≡ o.size = omega arith in
    let w : to + o.size ≤ length c.loop-c.out = omega (arith, within g (goal.at.sum_channel-requires g c).In-loop-c, c.loop-c.invariant.long) in
    (f.0, f.1, length_part (to + o.size - to) to o.size c.loop-c.out k w)

pub loop-c-preserved : goal.loop-c-preserved
loop-c-preserved g c =
    let o = c.args in
    let to = c.loop-c.c * o.size in
    let k : to + o.size - to ≡ o.size = omega arith in
    lay_more _ _ _ _ c.loop-c.c _ _ c.loop-c.invariant (within g (goal.at.loop-c-preserved g c).In-loop-c) k c.sum_channel.ensures

pub returns-clause-leaves : goal.returns-clause-leaves
returns-clause-leaves g c =
    let o = c.args in
    let fit = sym c.sum_fits.ensures ∙ c.if-not-sum_fits.false in
    let end : c.loop-c.c ≡ o.outs = omega (arith, c.loop-c.auto.c-end, c.loop-c-test.false) in
    left_new _ _ _ _ _ fit (sym c.every_sample.ensures ∙ c.if-not-every_sample.false)
    (lay_all o.outs o.size _ _ _ c.loop-c.c c.loop-c.invariant end (sum_fits_says _ _ _ _ _ fit).2)
