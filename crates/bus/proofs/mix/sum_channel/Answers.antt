-- `bus::mix::sum_channel` meets its contract: the inputs so far are added, and those after them make the sum whole.
use Rattle.std.proofs.Common.{◌≡◌, ◌+◌, ◌-◌, ◌*◌, ◌%◌, ◌<◌, ◌≤◌, length, get_or, arith}
use Rattle.bus.proofs.Sums.{count_is, sum_none, next_within, source_within, sum_more, sum_all}
use Rattle.bus.proofs.mix.sum_channel.Given.{Over}
use Rattle.bus.proofs.mix.sum_channel.Goals as goal
use Rattle.bus.proofs.mix.sum_channel.Goals.{In-loop-n}

-- the input at hand has channels, and it and the channel that is read lie within the samples
has_channels : (g : Over) (c : In-loop-n g) → 0 < get_or c.args.counts.now c.loop-n.n-index 0
has_channels g c = (count_is _ c.loop-n.n-index c.requires.0 c.loop-n-test.true).0

input_within : (g : Over) (c : In-loop-n g) →
    c.loop-n.at + get_or c.args.counts.now c.loop-n.n-index 0 * c.args.size ≤ length c.args.inputs.now
input_within g c = let N = g.N.Numbers in next_within N.plus N.past N.silence _ _ _ _ _ _ _ c.loop-n.invariant c.loop-n-test.true

channel_within : (g : Over) (c : In-loop-n g) →
    c.loop-n.at + c.args.c % get_or c.args.counts.now c.loop-n.n-index 0 * c.args.size + c.args.size ≤ length c.args.inputs.now
channel_within g c = let N = g.N.Numbers in source_within N.plus N.past N.silence _ _ _ _ _ _ _ c.loop-n.invariant c.requires.0 c.loop-n-test.true

pub loop-n-init : goal.loop-n-init
loop-n-init g c =
    let N = g.N.Numbers in sum_none N.plus N.past N.silence _ _ _ _ c.args.out.now _ c.requires.1 c.requires.2 c.clear.ensures

pub nonzero_rem-from : goal.nonzero_rem-from
nonzero_rem-from g c = has_channels g (goal.at.nonzero_rem-from g c).In-loop-n

pub overflow_mul-from : goal.overflow_mul-from
overflow_mul-from g c = omega (arith, channel_within g (goal.at.overflow_mul-from g c).In-loop-n)

pub overflow_add-from : goal.overflow_add-from
overflow_add-from g c = omega (arith, channel_within g (goal.at.overflow_add-from g c).In-loop-n)

pub overflow_add-from-in-loop-n : goal.overflow_add-from-in-loop-n
overflow_add-from-in-loop-n g c = omega (arith, channel_within g (goal.at.overflow_add-from-in-loop-n g c).In-loop-n)

pub offset_bounds-inputs-from : goal.offset_bounds-inputs-from
offset_bounds-inputs-from g c = omega (arith, channel_within g (goal.at.offset_bounds-inputs-from g c).In-loop-n)

pub slice_bounds-add_channel-end : goal.slice_bounds-add_channel-end
slice_bounds-add_channel-end g c = omega (arith, channel_within g (goal.at.slice_bounds-add_channel-end g c).In-loop-n)

pub overflow_mul-at : goal.overflow_mul-at
overflow_mul-at g c = omega (arith, input_within g (goal.at.overflow_mul-at g c).In-loop-n)

pub overflow_add-at : goal.overflow_add-at
overflow_add-at g c = omega (arith, input_within g (goal.at.overflow_add-at g c).In-loop-n)

pub loop-n-preserved : goal.loop-n-preserved
loop-n-preserved g c =
    let N = g.N.Numbers in
    let o = c.args in
    let loop = c.loop-n in
    let from = loop.at + o.c % get_or o.counts.now loop.n-index 0 * o.size in
    let j : from + o.size - from ≡ o.size = omega arith in
    sum_more N.plus N.past N.silence _ _ _ _ _ _ _ loop.invariant _ _ c.loop-n-test.true j c.add_channel.ensures

pub returns : goal.returns
returns g c = let N = g.N.Numbers in sum_all N.plus N.past N.silence _ _ _ _ _ _ _ c.loop-n.invariant c.loop-n-test.false
