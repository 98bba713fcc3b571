-- `rank::Graph::degrees` meets its contract: the counts, with the arcs that are left, are the in-degrees of all.
use lib.ListN.{length, drop}
use Rattle.rank.specs.Order.{arcs}
use Rattle.rank.proofs.Laws.{Tally}
use Rattle.rank.proofs.Graph.degrees.Given as goal

abbrev pub invariant-loop-v : goal.invariant-loop-v
invariant-loop-v l = Tally l.counts l.self.n (drop (length l.yielded) (arcs l.self.from.now l.self.to.now)) (arcs l.self.from.now l.self.to.now)
