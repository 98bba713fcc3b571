use Rattle.std.proofs.Common.{◌≡◌, length, map, take, drop}
use Rattle.prepare.specs.Live.{live_ids}
use Rattle.prepare.specs.Parts.{source_row, target_row, plugs}
use Rattle.prepare.proofs.Ports.{Flags}
use Rattle.graph.specs.Masks.{ports_in}
use Rattle.graph.proofs.topological_sort.find_ends.Given as goal

abbrev pub invariant-loop-e : goal.invariant-loop-e
invariant-loop-e l =
    (l.from.items ≡ map (source_row (live_ids l.fn.nodes)) (take l.e-index l.edges))
    × (l.to.items ≡ map (target_row (live_ids l.fn.nodes)) (take l.e-index l.edges))
    × (length l.fed ≡ 512)
    × Flags (ports_in l.fed) (length l.fn.nodes) (map (source_row (live_ids l.fn.nodes)) (drop l.e-index l.edges)) (map (target_row (live_ids l.fn.nodes)) (drop l.e-index l.edges)) (drop l.e-index l.edges)
    (plugs (length l.fn.nodes) (map (source_row (live_ids l.fn.nodes)) l.edges) (map (target_row (live_ids l.fn.nodes)) l.edges) l.edges)
