-- `bus::mix::fade` meets its contract: the channels before c are written, and the rest is as it was.
use Rattle.std.proofs.Common.{◌≡◌, ◌+◌, ◌-◌, ◌*◌, ◌%◌, ◌≤◌, T, length, sym, ap, subst, ◌∙◌, mod-lt, arith}
use Rattle.bus.proofs.Blocks.{room, length_part, lay_none, lay_more}
use Rattle.bus.proofs.Sizes.{channels_are, channel_read}
use Rattle.bus.proofs.Fades.{Fits, fade_fits_says, multiply_parts, channel_ahead}
use Rattle.bus.proofs.mix.fade.Given.{Over}
use Rattle.bus.proofs.mix.fade.Goals as goal
use Rattle.bus.proofs.mix.fade.Goals.{After-min-in-loop-c, In-loop-c}

fits : (g : Over) (c : In-loop-c g) → Fits (length c.args.input.now) c.args.p.ins (length c.args.gains.now) c.args.len c.args.size (length c.args.out.now) c.args.p.outs
fits g c = fade_fits_says _ _ _ _ _ _ _ (sym c.fade_fits.ensures ∙ c.if-not-fade_fits.false)

-- the channel that is written lies within the output
writes_within : (g : Over) (c : In-loop-c g) → c.loop-c.c * c.args.size + c.args.size ≤ length c.args.out.now
writes_within g c = room c.args.p.outs c.args.size c.loop-c.c _ (fits g c).long c.loop-c-test.true

-- where the channel that is read begins
begins : (g : Over) (c : After-min-in-loop-c g) → c.min-in-loop-c.result * c.args.size ≡ c.loop-c.c % c.args.p.ins * c.args.size
begins g c =
    let o = c.args in
    let f = fade_fits_says (length o.input.now) o.p.ins (length o.gains.now) o.len o.size (length o.out.now) o.p.outs (sym c.fade_fits.ensures ∙ c.if-not-fade_fits.false) in
    ap (λ k. k * o.size) (c.min-in-loop-c.ensures ∙ channel_read o.p.ins o.p.outs c.loop-c.c f.reads f.writes c.loop-c-test.true)

pub loop-c-init : goal.loop-c-init
loop-c-init g c = lay_none _ _ _

pub fade_channel-requires : goal.fade_channel-requires
fade_channel-requires g c =
    let N = g.N.Numbers in
    let o = c.args in
    let f = fits g (goal.at.fade_channel-requires g c).In-loop-c in
    let from = c.min-in-loop-c.result * o.size in
    let to = c.loop-c.c * o.size in
    let j : from + o.size - from ≡ o.size = omega arith in
    let k : to + o.size - to ≡ o.size = omega arith in
    let place = begins g (goal.at.fade_channel-requires g c).After-min-in-loop-c in
    let read : from + o.size ≤ length o.input.now = omega (arith, place, room o.p.ins o.size (c.loop-c.c % o.p.ins) _ f.whole (mod-lt c.loop-c.c (channels_are o.p.ins f.reads).0)) in
    let write : to + o.size ≤ length c.loop-c.out = omega (arith, writes_within g (goal.at.fade_channel-requires g c).In-loop-c, c.loop-c.invariant.long) in
    let all = N.in_range o.input.now o.gains.now (subst T (sym (sym c.every_sample.ensures ∙ c.if-not-every_sample.false)) tt) (subst T (sym (sym c.every_gain.ensures ∙ c.if-not-every_gain.false)) tt) in (
      length_part (from + o.size - from) from o.size o.input.now j read ∙ sym (length_part (to + o.size - to) to o.size c.loop-c.out k write),
      multiply_parts N.Multiplies N.past N.no_gain o.input.now o.gains.now all (from + o.size - from) from (o.len - c.min.result) c.min.result,
    )

pub loop-c-preserved : goal.loop-c-preserved
loop-c-preserved g c =
    let N = g.N.Numbers in
    let o = c.args in
    let here = c.loop-c.c in
    let from = c.min-in-loop-c.result * o.size in
    let to = here * o.size in
    let j : from + o.size - from ≡ o.size = omega arith in
    let k : to + o.size - to ≡ o.size = omega arith in
    let inside = writes_within g (goal.at.loop-c-preserved g c).In-loop-c in
    let write : to + o.size ≤ length c.loop-c.out = omega (arith, inside, c.loop-c.invariant.long) in
    let few = (fits g (goal.at.loop-c-preserved g c).In-loop-c).few in
    let ys = c.fade_channel.new.out in
    lay_more _ _ _ _ here _ ys c.loop-c.invariant inside k
    (channel_ahead N.times N.past N.no_gain o.input.now o.gains.now c.loop-c.out ys o.p.ins o.len o.p.position o.size here c.min.result from _ _ few c.min.ensures
    (begins g (goal.at.loop-c-preserved g c).After-min-in-loop-c) j k write c.fade_channel.ensures)
