use mathlib.Core.List.{◌++◌, map}
use lib.ListN.{take}
use Rattle.words.specs.Place.{Holds}
use Rattle.graph_rows.specs.Node.{nodes_in}
use Rattle.synthdef.specs.Tables.{node_rows}
use Rattle.model.specs.Spawn.{def_node}
use Rattle.voice_graph.specs.Added.{numbered}
use Rattle.voice_graph.proofs.made.append_defined.Given as goal

abbrev pub invariant-loop-i : goal.invariant-loop-i
invariant-loop-i l =
    Holds (nodes_in l.nodes) l.k (take l.count (nodes_in l.initial.nodes) ++ numbered l.first (take l.i (map (def_node l.owner) (node_rows l.fn.ns))))
