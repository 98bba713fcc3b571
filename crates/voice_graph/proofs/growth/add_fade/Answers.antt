use mathlib.Core.Path.{◌≡◌, sym, ap, ◌∙◌}
use mathlib.Core.Bool.{true, false}
use lib.ListN.{length, take}
use Rattle.graph_rows.specs.Node.{nodes_in}
use Rattle.graph.specs.Change.{edge}
use Rattle.edges.specs.Wiring.{put}
use Rattle.voice.specs.Voice.{id}
use Rattle.voice_graph.specs.Added.{has_room}
use Rattle.voice_graph.proofs.Grows.{fade_stays, fade_grows}
use Rattle.voice_graph.proofs.growth.add_fade.Goals as goal

pub returns-then-not-has_room : goal.returns-then-not-has_room
returns-then-not-has_room c =
    let a = c.args in
    let no : has_room (length (take a.s.nodes (nodes_in a.nodes.now))) a.s.next 1 ≡ false =
    ap (λ k. has_room k a.s.next 1) (sym c.node_count.ensures) ∙ sym c.has_room.ensures ∙ c.if-not-has_room.true in
    λ m. fade_stays a.s a.nodes.now a.edges.now m a.owner a.fed.from a.fed.to a.fed.port no

pub returns : goal.returns
returns c =
    let a = c.args in
    let is : has_room (length (take a.s.nodes (nodes_in a.nodes.now))) a.s.next 1 ≡ true =
    ap (λ k. has_room k a.s.next 1) (sym c.node_count.ensures) ∙ sym c.has_room.ensures ∙ c.if-not-has_room.false in
    let n = c.append_node-n in
    let e = c.put_edge-both in
    let wired = e.ensures.is ∙ ap (λ z. put z (edge (id a.s.next) a.fed.to a.fed.port)) c.put_edge-one.ensures.is in
    λ m. fade_grows a.s a.nodes.now a.edges.now m a.owner a.fed.from a.fed.to a.fed.port is c.fade_node.result c.fade_node.ensures n.new.nodes e.new.edges n.result e.result c.with_graph.result c.with_graph.ensures n.ensures wired
