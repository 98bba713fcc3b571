-- `whole_samples::WholesNumbers::every_gain` meets its contract.
use Rattle.whole_bus.specs.Sample.{is_gain}
use Rattle.whole_samples.proofs.WholesNumbers.every_gain.Goals as goal

pub returns : goal.returns
returns c = c.all_low.ensures is_gain (λ x r told. told)
