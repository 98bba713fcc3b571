use Prim.Native.Nat.{◌≤◌}
use mathlib.Core.Path.{◌≡◌}
use lib.ListN.{length, take}
use Rattle.voice.specs.Voice.{counted}
use Rattle.graph_rows.specs.Node.{nodes_in}
use Rattle.voice_rows.specs.Levels.{candidates_at}
use Rattle.voice_rows.specs.Rows.{voices_in}
use Rattle.voice_rows.proofs.levels.candidates.Given as goal

abbrev pub invariant-loop-i : goal.invariant-loop-i
invariant-loop-i l =
    (l.out.count ≤ l.i) × (length l.out.rows ≡ 64) × (take l.out.count l.out.rows ≡ candidates_at (take l.n (nodes_in l.nodes)) l.by.clock (counted l.by.scope l.by.bus) (take l.i (voices_in l.t))) × (l.walk.nodes.now ≡ l.nodes) × (l.walk.n ≡ l.n)
