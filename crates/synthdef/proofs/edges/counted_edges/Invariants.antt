-- `synthdef::edges::counted_edges` meets its contract. Invariant: the rows so far and the counted edges of what is left are the counted edges of all; past the rows so far the array is as it began.
use Prim.Native.Nat.{◌≤◌}
use mathlib.Core.Path.{◌≡◌}
use mathlib.Core.List.{◌++◌}
use lib.ListN.{length, take, drop}
use Rattle.synthdef.specs.Tables.{no_edge}
use Rattle.synthdef.specs.Edges.{counted}
use Rattle.synthdef.proofs.Walk.{Filled}
use Rattle.synthdef.proofs.edges.counted_edges.Given as goal

abbrev pub invariant-loop-i : goal.invariant-loop-i
invariant-loop-i l =
    (l.out.count ≤ l.i) × (length l.edges ≤ 48) × (length l.out.rows ≡ 48) × Filled no_edge 48 l.out.rows l.out.count
    × (take l.out.count l.out.rows ++ counted (drop l.i l.edges) ≡ counted l.edges)
