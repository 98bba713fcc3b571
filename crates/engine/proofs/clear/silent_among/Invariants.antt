use Rattle.std.proofs.Common.{◌≡◌, ◌≤◌, length, take}
use Rattle.engine.specs.Freed.{silent_ids}
use Rattle.engine.proofs.clear.silent_among.Given as goal

abbrev pub invariant-loop-v : goal.invariant-loop-v
invariant-loop-v l = (l.ids.items ≡ silent_ids l.graph.nodes (take l.v-index l.rows)) × (length l.ids.items ≤ l.v-index)
