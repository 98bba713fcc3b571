use mathlib.Core.Path.{◌≡◌}
use lib.ListN.{length, take}
use Rattle.prepare.specs.Parts.{source_row, target_row}
use Rattle.prepare.proofs.Mapped.{Mapped}
use Rattle.graph_rows.specs.Edge.{edges_in}
use Rattle.order_table.proofs.LiveIds.ends.Given as goal

abbrev pub invariant-loop-i : goal.invariant-loop-i
invariant-loop-i l = (length l.from ≡ 1024) × (length l.to ≡ 1024) × Mapped (source_row l.self.rows.now) l.from l.i (take l.m (edges_in l.edges)) × Mapped (target_row l.self.rows.now) l.to l.i (take l.m (edges_in l.edges))
