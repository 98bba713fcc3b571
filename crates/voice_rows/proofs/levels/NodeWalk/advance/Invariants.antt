use mathlib.Core.Path.{◌≡◌}
use Rattle.voice_rows.specs.Levels.{id_in}
use Rattle.voice_rows.proofs.levels.NodeWalk.advance.Given as goal

abbrev pub invariant-loop-i : goal.invariant-loop-i
invariant-loop-i l = (l.here.0 ≡ id_in l.self.nodes.now l.i) × (l.self.row ≡ l.i) × (l.self.nodes.now ≡ l.initial.self.nodes.now) × (l.self.n ≡ l.initial.self.n)
