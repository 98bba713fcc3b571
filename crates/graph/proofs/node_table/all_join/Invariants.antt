use Rattle.std.proofs.Common.{◌≡◌, true, take}
use Rattle.std.specs.List.{list_all}
use Rattle.graph.specs.Grown.{joins_new}
use Rattle.graph.proofs.node_table.all_join.Given as goal

abbrev pub invariant-loop-e : goal.invariant-loop-e
invariant-loop-e l = list_all (joins_new l.fn.nodes l.fn.next l.fn.more) (take l.e-index l.es) ≡ true
