use Prim.Native.Nat.{◌+◌}
use native.Mathlib.Omega.{arith}
use mathlib.Core.Path.{◌≡◌, sym, ap, subst, ◌∙◌}
use mathlib.Core.List.{[], ◌∷◌, ◌++◌, map}
use lib.ListN.{length, take, length-map, length-append}
use Rattle.words.specs.Place.{Holds}
use Rattle.graph_rows.specs.Node.{nodes_in}
use Rattle.synthdef.specs.Tables.{node_rows}
use Rattle.model.specs.Spawn.{def_node, const_node, pan_node}
use Rattle.voice_graph.specs.Added.{numbered, nodes_for}
use Rattle.voice_graph.proofs.Laws.{length_numbered, appended_more}
use Rattle.voice_graph.proofs.made.append_voice.Goals as goal

pub append_pan-requires : goal.append_pan-requires
append_pan-requires c =
    let s = c in
    let a = s.args in
    let d = c.append_defined-k in
    let base = take a.count (nodes_in a.nodes.now) in
    let rows = map (def_node a.owner) (node_rows a.ns) in
    let long : length (take d.result (nodes_in d.new.nodes)) ≡ length base + length (node_rows a.ns) =
    ap length d.ensures.is ∙ length-append base (numbered a.first rows) ∙ ap (λ k. length base + k) (length_numbered a.first rows ∙ length-map (node_rows a.ns) (def_node a.owner)) in
    record { places = omega (arith, s.requires.places, long); ids = omega (arith, s.requires.ids, ap length c.as_slice-m.ensures) }

pub returns-then-pan : goal.returns-then-pan
returns-then-pan c =
    let s = c in
    let a = s.args in
    let d = c.append_defined-k in
    let w = a.owner in
    let base = take a.count (nodes_in a.nodes.now) in
    let rows = map (def_node w) (node_rows a.ns) in
    let m = length c.as_slice-m.result.now in
    let size : length rows ≡ m = length-map (node_rows a.ns) (def_node w) ∙ ap length (sym c.as_slice-m.ensures) in
    let all = appended_more base rows (const_node w ∷ pan_node w ∷ []) a.first m size d.ensures.is in
    subst (λ b. Holds (nodes_in c.append_pan.new.nodes) c.append_pan.result (base ++ numbered a.first (nodes_for w a.ns b))) (sym c.if-pan.true)
    (subst (Holds (nodes_in c.append_pan.new.nodes) c.append_pan.result) all c.append_pan.ensures)
