use Rattle.rules.proofs.Limits.{fade_lengths}
use Rattle.rules.proofs.numbers.fade_length.Goals as goal

pub returns : goal.returns
returns c = fade_lengths
