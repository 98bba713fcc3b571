-- `whole_samples::add_block` meets its contract: the sums up to i have their samples, whose bits are collected, and the rest is as it was.
use Rattle.std.proofs.Common.{ℕ, ◌+◌, ◌%◌, ◌<◌, ◌≤◌, ltb, length, get_or, pos, ap, ◌∙◌, w32, SFits, arith}
use mir.ValLaws.{to_z-of_z}
use Rattle.bus.proofs.Blocks.{fill_none, fill_next, fill_more, fill_all}
use Rattle.whole_bus.specs.Sample.{is_sample}
use Rattle.whole_bus.specs.Raised.{above_lowest}
use Rattle.whole_bus.proofs.Ranges.{above_tells, collect_none, collect_more, collect_all}
use Rattle.whole_samples.proofs.add_block.Goals as goal

pub loop-i-init : goal.loop-i-init
loop-i-init c = (fill_none _ _, collect_none _ _, c.requires)

pub loop-i-preserved : goal.loop-i-preserved
loop-i-preserved c =
    let loop = c.loop-i in
    let o = c.args in
    let x = get_or o.a.now loop.i (pos 0) in
    let more : loop.i < length loop.sums = omega arith in
    let fits : SFits w32 x = record { sfits = c.above_lowest-arg-1.given } in
    let raised = c.above_lowest-x.ensures.value ∙ ap above_lowest (to_z-of_z w32 x fits) in
    let value =
    ap (λ (r : ℕ). (get_or loop.sums loop.i 0 + r) % 4294967296) raised
    ∙ ap (λ (s : ℕ). (s + above_lowest x) % 4294967296) (fill_next _ _ _ loop.i 0 loop.invariant.0 more) in
    let tells = ap (λ (r : ℕ). ltb r 16777216) raised ∙ above_tells x fits in
    let within : loop.i < length o.a.now = omega arith in (
      fill_more _ _ _ _ _ loop.invariant.0 more value,
      collect_more is_sample _ _ _ _ (pos 0) loop.invariant.1 within tells,
      loop.invariant.2,
    )

pub returns : goal.returns
returns c =
    let loop = c.loop-i in
    let o = c.args in
    let all : length loop.sums ≤ loop.i = omega arith in
    let past : length o.a.now ≤ loop.i = omega arith in
    record { sums = fill_all _ _ _ _ loop.invariant.0 all; tells = collect_all is_sample _ _ _ loop.invariant.1 past }
