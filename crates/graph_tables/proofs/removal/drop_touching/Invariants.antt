use Rattle.graph_tables.proofs.Marks.{MarkedTo}
use Rattle.graph_tables.proofs.removal.drop_touching.Given as goal

abbrev pub invariant-loop-j : goal.invariant-loop-j
invariant-loop-j l = MarkedTo l.marks l.ids l.j
