use mathlib.Core.Path.{◌≡◌}
use lib.ListN.{length, take, drop}
use Rattle.std.specs.Iterator.Adapters.{enumerate_count}
use Rattle.prepare.specs.Parts.{plugs}
use Rattle.prepare.proofs.Ports.{Flags}
use Rattle.graph_rows.specs.Edge.{edges_in}
use Rattle.order_table.specs.Masks.{ports_in}
use Rattle.order_table.proofs.Pairs.{first, second, Left}
use Rattle.order_table.proofs.EdgeRows.plugged.Given as goal

abbrev pub invariant-loop-i : goal.invariant-loop-i
invariant-loop-i l =
    (length l.masks ≡ 512) × Left (length l.self.to.now) l.i-iterator
    × Flags (ports_in l.masks) (length l.ids.rows.now) (first l.i-iterator) (second l.i-iterator) (drop (enumerate_count l.i-iterator) (take (length l.self.to.now) (edges_in l.edges))) (plugs (length l.ids.rows.now) l.self.from.now l.self.to.now (take (length l.self.to.now) (edges_in l.edges)))
