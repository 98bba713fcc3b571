use Rattle.rules.proofs.Questions.{log_law, mark_law}
use Rattle.rules.proofs.reading.steal_log.Goals as goal

pub returns : goal.returns
returns c = record { pushed = log_law; marked = mark_law }
