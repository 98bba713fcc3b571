-- `whole_samples::WholesNumbers::every_sample` meets its contract.
use Rattle.whole_bus.specs.Sample.{is_sample}
use Rattle.whole_samples.proofs.WholesNumbers.every_sample.Goals as goal

pub returns : goal.returns
returns c = c.all_low.ensures is_sample (λ x r told. told.1)
