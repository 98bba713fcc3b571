-- `whole_samples::add_ports` meets its contract: the blocks before `at` are added, and those that are left make the sums whole.
use Rattle.std.proofs.Common.{◌≡◌, ◌+◌, ◌-◌, ◌*◌, ◌<◌, ◌≤◌, length, arith, subst, ℕ, ltb}
use lib.Bits.{bit_or}
use Rattle.whole_bus.proofs.Raising.{Porting, next_fits, two_fit, port_one, port_two, port_all}
use Rattle.whole_samples.proofs.add_ports.Goals as goal
use Rattle.whole_samples.proofs.add_ports.Goals.{In-loop, Then-n-eq1}

-- the two blocks at hand lie within the inputs, and so does the last
two_within : (c : In-loop) → c.loop.at + length c.args.sums.now + length c.args.sums.now ≤ length c.args.inputs.now
two_within c = let two : 1 < c.args.n - 2 * c.loop.counter = omega (arith, c.loop-test.true) in two_fit _ _ _ _ _ _ _ c.loop.invariant.0 two

last_within : (c : Then-n-eq1) → c.loop.at + length c.args.sums.now ≤ length c.args.inputs.now
last_within c = let one : 0 < c.args.n - 2 * c.loop.counter = omega arith in next_fits _ _ _ _ _ _ _ c.loop.invariant.0 one

pub loop-preserved : goal.loop-preserved
loop-preserved c =
    let turn = c.before.before.before.before.before.before in
    let loop = turn.loop in
    let s = turn.args in
    let size = length s.sums.now in
    let j : loop.at + size - loop.at ≡ size = omega arith in
    let k : loop.at + size + size - (loop.at + size) ≡ size = omega arith in
    let two : 1 < s.n - 2 * loop.counter = omega (arith, turn.loop-test.true) in
    let step : s.n - 2 * loop.counter - 2 ≡ s.n - 2 * (loop.counter + 1) = omega arith in
    (subst (λ (m : ℕ). Porting s.inputs.now s.n s.sums.now c.add_two-more.new.sums (ltb (bit_or loop.bits c.add_two-more.result) 16777216) (loop.at + size + size) m) step (port_two _ _ _ _ loop.bits _ _ loop.invariant.0 _ _ _ _ two j k c.add_two-more.ensures), λ i. (c.slice_known-in-loop-1.given i).fits)

pub returns-then-n-eq1 : goal.returns-then-n-eq1
returns-then-n-eq1 c =
    let last = c.before.before.before.before.before in
    let loop = last.loop in
    let s = last.args in
    let size = length s.sums.now in
    let j : loop.at + size - loop.at ≡ size = omega arith in
    let one : s.n - 2 * loop.counter ≡ 1 = omega (arith, last.if-n-eq1.true, last.loop-test.false) in
    let some : 0 < s.n - 2 * loop.counter = omega arith in
    let none : s.n - 2 * loop.counter - 1 ≡ 0 = omega arith in
    port_all _ _ _ _ (bit_or loop.bits c.add_block-more.result) _ _ (port_one _ _ _ _ loop.bits _ _ loop.invariant.0 _ _ _ some j c.add_block-more.ensures) none (λ i. (c.slice_known-then-n-eq1-1.given i).fits)

pub returns : goal.returns
returns c =
    let loop = c.loop in
    let none : c.args.n - 2 * loop.counter ≡ 0 = omega (arith, c.loop-test.false, c.if-n-eq1.false) in
    port_all _ _ _ _ loop.bits _ _ loop.invariant.0 none loop.invariant.1
