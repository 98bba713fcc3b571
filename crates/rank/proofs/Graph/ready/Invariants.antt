use lib.ListN.{take}
use Rattle.rank.proofs.Laws.{Filled}
use Rattle.rank.proofs.Graph.ready.Given as goal

abbrev pub invariant-loop-v : goal.invariant-loop-v
invariant-loop-v l = Filled l.queue.rows l.queue.count l.v (take l.self.n l.counts)
