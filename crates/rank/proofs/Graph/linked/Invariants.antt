use lib.ListN.{length}
use Rattle.rank.specs.Order.{arcs}
use Rattle.rank.proofs.Laws.{before, Back, Chain}
use Rattle.rank.proofs.Graph.linked.Given as goal

-- the arcs that are linked stand behind those that are left
abbrev pub invariant-loop-i : goal.invariant-loop-i
invariant-loop-i l = Back l.self.from.now l.i-iterator × Chain l.first l.next l.self.n (arcs l.self.from.now l.self.to.now) (length (before l.i-iterator))
