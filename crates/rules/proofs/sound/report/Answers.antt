use Rattle.rules.proofs.Reports.{report_law}
use Rattle.rules.proofs.sound.report.Goals as goal

pub returns : goal.returns
returns c = report_law
