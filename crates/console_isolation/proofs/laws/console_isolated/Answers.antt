use Rattle.console_isolation.proofs.Theorem.{console_isolated}
use Rattle.console_isolation.proofs.laws.console_isolated.Goals as goal

pub returns : goal.returns
returns c = console_isolated
