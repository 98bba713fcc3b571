-- `whole_samples::sum_through` meets its contract.
use Rattle.std.proofs.Common.{◌*◌, ◌<◌, ◌∙◌, arith}
use Rattle.whole_bus.proofs.Even.{sum_long, sum_small, summed_done}
use Rattle.whole_samples.proofs.sum_through.Goals as goal

pub clip_sums-requires : goal.clip_sums-requires
clip_sums-requires c =
    let told = c.add_ports.ensures in
    let low = c.if-add_ports-lt16777216.true in
    let raised : c.args.n * 8388608 < 2147483648 = omega arith in
    (sum_long _ _ _ _ _ told low c.requires.3 ∙ c.requires.1, sum_small _ _ _ _ _ told low c.requires.3, raised)

pub returns-then-add_ports-lt16777216 : goal.returns-then-add_ports-lt16777216
returns-then-add_ports-lt16777216 c =
    let told = c.add_ports.ensures in
    summed_done _ _ _ _ _ told c.if-add_ports-lt16777216.true c.requires.3 _ _ c.requires.1 c.clip_sums.ensures
