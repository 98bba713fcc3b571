-- `whole_samples::sum_even` meets its contract.
use Rattle.std.proofs.Common.{◌≡◌, ◌-◌, length, refl, arith}
use Rattle.whole_bus.specs.Block.{every}
use Rattle.whole_bus.proofs.Even.{blank_part, blank_long}
use Rattle.whole_samples.proofs.sum_even.Goals as goal

pub sum_through-requires : goal.sum_through-requires
unfolding every
sum_through-requires c =
    let o = c.before.before in
    let n = length o.args.out.now in
    let k : n - 0 ≡ n = omega arith in
    (o.requires.0, blank_long (n - 0) n _ k o.requires.1 refl, blank_part (n - 0) _ tt, o.requires.2)
