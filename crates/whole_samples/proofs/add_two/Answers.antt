-- `whole_samples::add_two` meets its contract: the sums up to i have their two samples, whose bits are collected, and the rest is as it was.
use Rattle.std.proofs.Common.{ℕ, ◌+◌, ◌%◌, ◌<◌, ◌≤◌, Bool, ◌&&◌, ltb, length, get_or, pos, ap, ◌∙◌, w32, SFits, arith}
use mir.ValLaws.{to_z-of_z}
use Rattle.bus.proofs.Blocks.{fill_none, fill_next, fill_more, fill_all}
use Rattle.whole_bus.specs.Sample.{is_sample}
use Rattle.whole_bus.specs.Block.{every}
use Rattle.whole_bus.specs.Raised.{above_lowest}
use Rattle.whole_bus.proofs.Ranges.{above_tells, collect_none, collect_more, collect_all, either}
use Rattle.whole_bus.proofs.Raising.{wrap_then}
use Rattle.whole_samples.proofs.add_two.Goals as goal

pub loop-i-init : goal.loop-i-init
loop-i-init c = (fill_none _ _, collect_none _ _, collect_none _ _, c.requires.0, c.requires.1)

pub loop-i-preserved : goal.loop-i-preserved
loop-i-preserved c =
    let loop = c.loop-i in
    let o = c.args in
    let x = get_or o.a.now loop.i (pos 0) in
    let y = get_or o.b.now loop.i (pos 0) in
    let more : loop.i < length loop.sums = omega arith in
    let x_fits : SFits w32 x = record { sfits = c.above_lowest-arg-1.given } in
    let y_fits : SFits w32 y = record { sfits = c.above_lowest-arg-in-loop-i-1.given } in
    let x_raised = c.above_lowest-x.ensures.value ∙ ap above_lowest (to_z-of_z w32 x x_fits) in
    let y_raised = c.above_lowest-y.ensures.value ∙ ap above_lowest (to_z-of_z w32 y y_fits) in
    let value =
    ap (λ (r : ℕ). ((get_or loop.sums loop.i 0 + r) % 4294967296 + c.above_lowest-y.result) % 4294967296) x_raised
    ∙ ap (λ (r : ℕ). ((get_or loop.sums loop.i 0 + above_lowest x) % 4294967296 + r) % 4294967296) y_raised
    ∙ ap (λ (s : ℕ). ((s + above_lowest x) % 4294967296 + above_lowest y) % 4294967296) (fill_next _ _ _ loop.i 0 loop.invariant.0 more)
    ∙ wrap_then (get_or o.sums.now loop.i 0) (above_lowest x) (above_lowest y) in
    let in_a : loop.i < length o.a.now = omega arith in
    let in_b : loop.i < length o.b.now = omega arith in (
      fill_more _ _ _ _ _ loop.invariant.0 more value,
      collect_more is_sample _ _ _ _ (pos 0) loop.invariant.1 in_a (ap (λ (r : ℕ). ltb r 16777216) x_raised ∙ above_tells x x_fits),
      collect_more is_sample _ _ _ _ (pos 0) loop.invariant.2 in_b (ap (λ (r : ℕ). ltb r 16777216) y_raised ∙ above_tells y y_fits),
      loop.invariant.3,
      loop.invariant.4,
    )

pub returns : goal.returns
returns c =
    let loop = c.loop-i in
    let o = c.args in
    let all : length loop.sums ≤ loop.i = omega arith in
    let past_a : length o.a.now ≤ loop.i = omega arith in
    let past_b : length o.b.now ≤ loop.i = omega arith in
    let first = collect_all is_sample o.a.now _ _ loop.invariant.1 past_a in
    let second = collect_all is_sample o.b.now _ _ loop.invariant.2 past_b in
    record {
      sums = fill_all _ _ _ _ loop.invariant.0 all;
      tells = either loop.first loop.second ∙ ap (λ (t : Bool). t && ltb loop.second 16777216) first ∙ ap (λ (t : Bool). every is_sample o.a.now && t) second;
    }
