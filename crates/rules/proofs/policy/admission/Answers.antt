use Rattle.rules.proofs.Victims.{admission_law}
use Rattle.rules.proofs.Counting.{admission_counts}
use Rattle.rules.proofs.policy.admission.Goals as goal

pub returns : goal.returns
returns c = record { met = admission_law; counted = admission_counts }
