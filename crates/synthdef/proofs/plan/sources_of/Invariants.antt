-- `synthdef::plan::sources_of` meets its contract. Invariant: the sources so far and those of the ports that are left are the sources of all; past the sources so far the array is 0.
use Prim.Native.Nat.{◌+◌, ◌-◌, ◌≤◌}
use mathlib.Core.Path.{◌≡◌}
use mathlib.Core.List.{◌++◌}
use lib.ListN.{length, take}
use Rattle.synthdef.specs.Tables.{edge_rows}
use Rattle.synthdef.specs.Plan.{sources_from}
use Rattle.synthdef.proofs.Walk.{Filled}
use Rattle.synthdef.proofs.plan.sources_of.Given as goal

abbrev pub invariant-loop-port : goal.invariant-loop-port
invariant-loop-port l =
    let end = l.fn.span.first + l.fn.span.count in
    (l.found.count + l.fn.span.first ≤ l.port) × (l.port ≤ end) × (length l.found.rows ≡ 8) × Filled 0 8 l.found.rows l.found.count
    × (take l.found.count l.found.rows ++ sources_from (edge_rows l.es) l.node l.port (end - l.port) ≡ sources_from (edge_rows l.es) l.node l.fn.span.first l.fn.span.count)
