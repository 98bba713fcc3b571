-- `bus::total_channels` meets its contract: the counts so far are 1 or 2, and with what is left of them n makes the sum.
use Rattle.std.proofs.Common.{◌≡◌, ◌+◌, ◌&&◌, Bool, T, get_or, drop, cond, ℕ, Some, None, sym, ap, subst, ◌∙◌, arith}
use Rattle.bus.specs.Sum.{every_is_channels, channels}
use Rattle.bus.proofs.Sizes.{channels_are}
use Rattle.bus.proofs.Sums.{channels_next, channels_none, every_next, every_none}
use Rattle.bus.proofs.total_channels.Goals as goal

pub returns-then-not-is_channels : goal.returns-then-not-is_channels
returns-then-not-is_channels c =
    let counts = c.args.counts.now in
    let k = c.loop-n.n-index in
    let no = sym c.loop-n.invariant.2 ∙ every_next counts k c.loop-n-test.true ∙ ap (λ (b : Bool). b && every_is_channels (drop (k + 1) counts)) (sym c.is_channels.ensures ∙ c.if-not-is_channels.true) in
    sym (ap (λ (b : Bool). cond b (Some (channels counts)) None) no)

pub loop-n-preserved : goal.loop-n-preserved
loop-n-preserved c =
    let counts = c.args.counts.now in
    let k = c.loop-n.n-index in
    let yes = sym c.is_channels.ensures ∙ c.if-not-is_channels.false in
    let small = channels_are (get_or counts k 0) (subst T (sym yes) tt) in (
      omega (arith, small.1, c.loop-n.invariant.0),
      omega (arith, channels_next counts k c.loop-n-test.true, c.loop-n.invariant.1),
      sym (every_next counts k c.loop-n-test.true ∙ ap (λ (b : Bool). b && every_is_channels (drop (k + 1) counts)) yes) ∙ c.loop-n.invariant.2,
    )

pub returns : goal.returns
returns c =
    let counts = c.args.counts.now in
    let k = c.loop-n.n-index in
    let sum : c.loop-n.total ≡ channels counts = omega (arith, channels_none counts k c.loop-n-test.false, c.loop-n.invariant.1) in
    ap (λ (n : ℕ). Some n) sum ∙ sym (ap (λ (b : Bool). cond b (Some (channels counts)) None) (sym c.loop-n.invariant.2 ∙ every_none counts k c.loop-n-test.false))
