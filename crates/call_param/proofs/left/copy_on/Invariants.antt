use mathlib.Core.Path.{◌≡◌}
use mathlib.Core.List.{[]}
use lib.ListN.{length, take, get_or}
use Rattle.voice.specs.Voice.{id}
use Rattle.graph_rows.specs.Node.{node_of, nodes_in}
use Rattle.words.specs.Place.{place_of}
use Rattle.call_param.specs.Left.{is_left}
use Rattle.call_param.proofs.Copying.{CopyingOn}
use Rattle.call_param.proofs.left.copy_on.Given as goal

abbrev pub invariant-loop-i : goal.invariant-loop-i
invariant-loop-i l = (length l.t ≡ length l.initial.t) × (l.p ≡ place_of (is_left l.freed (id l.k)) (take l.count (nodes_in l.initial.t)) → CopyingOn 22 node_of (is_left l.freed (id l.k)) (get_or (nodes_in l.initial.t) l.p (node_of [])) l.initial.t l.i-end l.p l.t l.i)
