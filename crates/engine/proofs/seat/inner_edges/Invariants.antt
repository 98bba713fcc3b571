use Rattle.std.proofs.Common.{◌≡◌, map, take, length}
use Rattle.synthdef.specs.Instance.{live_edge}
use Rattle.engine.proofs.seat.inner_edges.Given as goal

abbrev pub invariant-loop-e : goal.invariant-loop-e
invariant-loop-e l = l.edges.items ≡ map (λ e. live_edge e l.fn.first) (take l.e-index l.e-items)
