use Rattle.words.specs.Place.{Changed}
use Rattle.words.proofs.table.change_rows.Given as goal

abbrev pub invariant-loop-i : goal.invariant-loop-i
invariant-loop-i g l = Changed l.w l.k l.i g.W.AsSlice.items (goal.F-post g l.change) l.initial.t l.t
