use Prim.Native.Nat.{◌+◌, ◌≤◌, ◌<◌}
use native.Mathlib.Omega.{arith}
use mathlib.Core.Path.{◌≡◌, sym, ap, subst, ◌∙◌}
use mathlib.Core.List.{map}
use lib.ListN.{length, take, get_or, length-map, get_or-map}
use Rattle.words.specs.Place.{Holds}
use Rattle.graph_rows.specs.Node.{nodes_in}
use Rattle.graph.specs.Node.{with_id}
use Rattle.synthdef.specs.Tables.{node_rows, no_node}
use Rattle.model.specs.Spawn.{def_node}
use Rattle.voice_graph.proofs.Laws.{appended_next}
use Rattle.voice_graph.proofs.made.append_defined.Goals as goal

pub loop-i-preserved : goal.loop-i-preserved
loop-i-preserved c =
    let l = c.loop-i in
    let ns = c.args.ns in
    let rows = map (def_node c.args.owner) (node_rows ns) in
    let base = take c.args.count (nodes_in c.args.nodes.now) in
    let items = c.as_slice-n-items.ensures in
    let long : length rows ≡ length c.as_slice-n-items.result.now = length-map (node_rows ns) (def_node c.args.owner) ∙ sym (ap length items) in
    let below : l.i < length rows = omega (arith, c.loop-i-test.true) in
    let room : length base + length rows ≤ 512 = omega (arith, c.requires.places, length-map (node_rows ns) (def_node c.args.owner)) in
    let row = c.live_node.ensures ∙ ap (λ z. with_id (c.args.first + l.i) (def_node c.args.owner (get_or z l.i no_node))) items ∙ ap (with_id (c.args.first + l.i)) (sym (get_or-map (def_node c.args.owner) (node_rows ns) l.i no_node)) in
    let one = c.append_node-k.ensures in
    let next = appended_next base rows (def_node c.args.owner no_node) c.live_node.result c.args.first l.i below room row l.invariant.is in
    subst (Holds (nodes_in c.append_node-k.new.nodes) c.append_node-k.result) next one
