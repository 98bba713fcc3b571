use Rattle.std.proofs.Common.{◌≡◌, ◌++◌, [], take}
use Rattle.graph.specs.Grown.{wired_all}
use Rattle.graph.proofs.edge_table.put_new.Given as goal

abbrev pub invariant-loop-e : goal.invariant-loop-e
invariant-loop-e l =
    (l.edges.items ≡ wired_all l.fn.edges.items (take l.e-index l.es)) × (l.edges.items ≡ l.fn.edges.items ++ wired_all [] (take l.e-index l.es))
