use Prim.Native.Nat.{◌+◌}
use mathlib.Core.Path.{◌≡◌, sym, ap, ◌∙◌}
use mathlib.Core.Bool.{true, false}
use lib.ListN.{length, take}
use Rattle.graph_rows.specs.Node.{nodes_in}
use Rattle.synthdef.specs.Tables.{node_rows}
use Rattle.voice_graph.specs.Added.{has_room}
use Rattle.voice_graph.proofs.Grows.{voice_stays, voice_grows}
use Rattle.voice_graph.proofs.growth.add_voice.Goals as goal
use Rattle.voice_graph.proofs.growth.add_voice.Goals.{Start}

pub returns-then-not-has_room : goal.returns-then-not-has_room
returns-then-not-has_room c =
    let a = c.args in
    let old = length (take a.s.nodes (nodes_in a.nodes.now)) in
    let no : has_room old a.s.next (length (node_rows a.d.nodes) + 2) ≡ false =
    ap (λ k. has_room k a.s.next (length (node_rows a.d.nodes) + 2)) (sym c.node_count.ensures) ∙ ap (λ l. has_room c.node_count.result a.s.next (length l + 2)) (sym c.as_slice.ensures) ∙ sym c.has_room.ensures ∙ c.if-not-has_room.true in
    λ m. voice_stays a.s a.nodes.now a.edges.now m a.owner a.d a.pan a.bus a.port no

pub returns : goal.returns
returns c =
    let a = c.args in
    let old = length (take a.s.nodes (nodes_in a.nodes.now)) in
    let is : has_room old a.s.next (length (node_rows a.d.nodes) + 2) ≡ true =
    ap (λ k. has_room k a.s.next (length (node_rows a.d.nodes) + 2)) (sym c.node_count.ensures) ∙ ap (λ l. has_room c.node_count.result a.s.next (length l + 2)) (sym c.as_slice.ensures) ∙ sym c.has_room.ensures ∙ c.if-not-has_room.false in
    let n = c.append_voice-n in
    let e = c.wire_voice-e in
    let next = c.voice_size in
    λ m. voice_grows a.s a.nodes.now a.edges.now m a.owner a.d a.pan a.bus a.port is n.new.nodes e.new.edges n.result e.result (a.s.next + next.result) c.with_graph.result c.with_graph.ensures (ap (λ k. a.s.next + k) next.ensures) n.ensures e.ensures
