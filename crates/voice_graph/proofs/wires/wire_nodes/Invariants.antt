use mathlib.Core.Path.{◌≡◌}
use lib.ListN.{length, take, drop}
use Rattle.graph_rows.specs.Edge.{edges_in}
use Rattle.synthdef.specs.Tables.{edge_rows}
use Rattle.synthdef.specs.Instance.{live_edges}
use Rattle.voice_graph.specs.Added.{put_all}
use Rattle.voice_graph.proofs.wires.wire_nodes.Given as goal

abbrev pub invariant-loop-e : goal.invariant-loop-e
invariant-loop-e l =
    (l.k ≡ length (take l.k (edges_in l.edges)))
    × (put_all (take l.k (edges_in l.edges)) (live_edges (drop l.e-index (edge_rows l.fn.es)) l.first) ≡ put_all (take l.count (edges_in l.initial.edges)) (live_edges (edge_rows l.fn.es) l.first))
