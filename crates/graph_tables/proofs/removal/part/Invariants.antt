use Rattle.std.proofs.Common.{◌≡◌, Bool, not, ◌≤◌, length}
use Rattle.words.proofs.InPlace.{Gathering}
use Rattle.words.proofs.InWords.{ClosingIn}
use Rattle.node.specs.declared.record.Node.{Node}
use Rattle.graph_rows.specs.Node.{node_of, nodes_in}
use Rattle.graph_tables.specs.Removal.{Tells}
use Rattle.graph_tables.proofs.removal.part.Given as goal

abbrev pub invariant-loop-i : goal.invariant-loop-i
invariant-loop-i g l =
    (l.stay ≤ l.i) × (length l.nodes ≡ length l.initial.nodes)
    × ((q : Node → Bool) → Tells (goal.F-post g l.goes) q
    → ClosingIn 22 node_of (λ x. not (q x)) l.initial.nodes l.nodes l.n l.i l.stay
    × Gathering q (λ x. x.id.0) 512 (nodes_in l.initial.nodes) l.removed.rows l.i l.removed.count)
