use mathlib.Core.List.{[]}
use Rattle.voice_rows.proofs.Filling.{Filling}
use Rattle.voice_rows.proofs.layout.put_records.Given as goal

abbrev pub invariant-loop-k : goal.invariant-loop-k
invariant-loop-k g l = Filling l.base g.row.W g.row.N g.L.Layout.at (g.L.Layout.at [] 0) l.initial.ws l.ws l.xs l.k
