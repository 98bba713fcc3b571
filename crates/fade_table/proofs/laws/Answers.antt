use Rattle.fade_table.proofs.Computed.{entries_lawful}
use Rattle.fade_table.proofs.Near.{entries_nearest}
use Rattle.fade_table.proofs.Gains.{exact_at}
use Rattle.fade_table.proofs.laws.Goals as goal

pub returns : goal.returns
returns c = record { lawful = entries_lawful; nearest = entries_nearest; exact = exact_at }
