use Rattle.rules.proofs.SilenceTable.{the_table}
use Rattle.rules.proofs.silence.silence_table.Goals as goal

pub returns : goal.returns
returns c = the_table
