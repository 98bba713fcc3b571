use Rattle.refusals.proofs.Host.{report_refuses}
use Rattle.refusals.proofs.report_is_refused.Goals as goal

pub returns : goal.returns
returns c = report_refuses
