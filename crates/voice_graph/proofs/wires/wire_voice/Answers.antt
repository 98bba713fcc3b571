use Prim.Native.Nat.{◌+◌}
use mathlib.Core.Path.{◌≡◌, refl, sym, ap, ◌∙◌}
use mathlib.Core.List.{[], ◌∷◌, ◌++◌}
use lib.ListN.{length, take}
use Rattle.graph_rows.specs.Edge.{edges_in}
use Rattle.edges.specs.Wiring.{put}
use Rattle.graph.specs.Change.{edge}
use Rattle.synthdef.specs.Tables.{node_rows, edge_rows}
use Rattle.synthdef.specs.Edges.{counted}
use Rattle.synthdef.proofs.EdgeLaws.{counted_table}
use Rattle.synthdef.specs.Instance.{id_after, live_edges}
use Rattle.voice_graph.specs.Added.{put_all, pan_edges, voice_edges}
use Rattle.voice_graph.proofs.Laws.{voice_put}
use Rattle.voice_graph.proofs.wires.wire_voice.Goals as goal

pub returns-then-pan : goal.returns-then-pan
returns-then-pan c =
    let s = c in
    let d = s.args.d in
    let first = s.args.first in
    let n = length c.as_slice.result.now in
    let es = take s.args.count (edges_in s.args.edges.now) in
    let l = live_edges (counted (edge_rows d.edges)) first in
    let many : n ≡ length (node_rows d.nodes) = ap length c.as_slice.ensures in
    let inner = c.wire_nodes-inner.ensures.is ∙ ap (λ z. put_all es (live_edges z first)) (ap edge_rows c.counted_edges.ensures ∙ counted_table d.edges) in
    let last = c.put_edge.ensures in
    let pan : edge c.id_after-from.result c.id_after-last.result 0 ∷ edge c.id_after-constant.result c.id_after-last.result 1 ∷ [] ≡ pan_edges first d.output n = rw (c.id_after-from.ensures, c.id_after-constant.ensures, c.id_after-last.ensures) refl in
    let is =
    last.is
    ∙ ap (λ i. put (take c.wire_pan-panned.result (edges_in c.wire_pan-panned.new.edges)) (edge i s.args.bus s.args.port)) c.id_after-last.ensures
    ∙ voice_put es l (pan_edges first d.output n) (edge (id_after first (n + 1)) s.args.bus s.args.port) inner (c.wire_pan-panned.ensures.is ∙ ap (put_all (take c.wire_nodes-inner.result (edges_in c.wire_nodes-inner.new.edges))) pan)
    ∙ ap (λ k. put_all es (l ++ (pan_edges first d.output k ++ (edge (id_after first (k + 1)) s.args.bus s.args.port ∷ [])))) many
    ∙ ap (λ b. put_all es (voice_edges first d b s.args.bus s.args.port)) (sym c.if-pan.true) in
    record { is = is; many = last.many ∙ ap length (sym last.is ∙ is) }

pub returns : goal.returns
returns c =
    let s = c in
    let d = s.args.d in
    let first = s.args.first in
    let es = take s.args.count (edges_in s.args.edges.now) in
    let l = live_edges (counted (edge_rows d.edges)) first in
    let inner = c.wire_nodes-inner.ensures.is ∙ ap (λ z. put_all es (live_edges z first)) (ap edge_rows c.counted_edges.ensures ∙ counted_table d.edges) in
    let last = c.put_edge-2.ensures in
    let is =
    last.is
    ∙ ap (λ i. put (take c.wire_nodes-inner.result (edges_in c.wire_nodes-inner.new.edges)) (edge i s.args.bus s.args.port)) c.id_after-last-2.ensures
    ∙ voice_put es l [] (edge (id_after first d.output) s.args.bus s.args.port) inner refl
    ∙ ap (λ b. put_all es (voice_edges first d b s.args.bus s.args.port)) (sym c.if-pan.false) in
    record { is = is; many = last.many ∙ ap length (sym last.is ∙ is) }
