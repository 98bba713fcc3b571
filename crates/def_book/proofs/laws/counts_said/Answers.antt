use Rattle.def_book.proofs.Counted.{counts_said, blank_refused}
use Rattle.def_book.proofs.laws.counts_said.Goals as goal

pub returns : goal.returns
returns c = record { counts = counts_said; refused = blank_refused }
