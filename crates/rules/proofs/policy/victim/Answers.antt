use Rattle.rules.proofs.Victims.{victim_law}
use Rattle.rules.proofs.policy.victim.Goals as goal

pub returns : goal.returns
returns c = victim_law
