use Rattle.console.proofs.Claim.{console_claim}
use Rattle.console.proofs.laws.console_claim.Goals as goal

pub returns : goal.returns
returns c = console_claim
