use Rattle.console.proofs.Rounds.{makes_console}
use Rattle.console.proofs.laws.making_is_refused.Goals as goal

pub returns : goal.returns
returns c = makes_console
