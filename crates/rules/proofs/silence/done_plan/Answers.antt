use Rattle.rules.proofs.Plans.{plan_law, spawned_plan}
use Rattle.rules.proofs.silence.done_plan.Goals as goal

pub returns : goal.returns
returns c = record { plan = plan_law; spawned = spawned_plan }
