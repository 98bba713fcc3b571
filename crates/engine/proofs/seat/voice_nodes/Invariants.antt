use Rattle.std.proofs.Common.{◌≡◌, map, take, length}
use Rattle.model.specs.Spawn.{def_node}
use Rattle.engine.proofs.seat.voice_nodes.Given as goal

abbrev pub invariant-loop-n : goal.invariant-loop-n
invariant-loop-n l = l.nodes.items ≡ map (def_node l.fn.owner) (take l.n-index l.n-items)
