-- `synthdef::limits::ordered` meets its contract. Invariant: the ends so far and those of what is left are the ends of all edges. The arcs of the ends are the arcs of the edges.
use Prim.Native.Nat.{ℕ, ◌≤◌}
use mathlib.Core.Path.{◌≡◌}
use mathlib.Core.List.{◌++◌, map}
use lib.ListN.{length, take, drop}
use Rattle.synthdef.specs.declared.def.DefEdge.{DefEdge}
use Rattle.synthdef.proofs.limits.ordered.Given as goal

abbrev pub source : DefEdge → ℕ
source e = e.from

abbrev pub target : DefEdge → ℕ
target e = e.to

abbrev pub invariant-loop-e : goal.invariant-loop-e
invariant-loop-e l =
    (length l.e-items ≤ 48) × (length l.from.rows ≡ 48) × (length l.to.rows ≡ 48) × (l.from.count ≡ l.e-index) × (l.to.count ≡ l.e-index)
    × (take l.e-index l.from.rows ++ map source (drop l.e-index l.e-items) ≡ map source l.e-items)
    × (take l.e-index l.to.rows ++ map target (drop l.e-index l.e-items) ≡ map target l.e-items)
