use Rattle.std.proofs.Common.{◌≡◌, ◌∙◌, sym, ap, is_some, None}
use Rattle.graph.specs.View.{GraphView}
use Rattle.graph.specs.Node.{node_at}
use Rattle.graph.specs.Refuse.{wire_test}
use Rattle.graph.proofs.Calls.{answer_done}
use Rattle.graph.proofs.Kept.{sound_wired, wire_fits}
use Rattle.graph.proofs.audio_graph.AudioGraph.connect.Goals as goal

pub put_edge-requires-clause-lone : goal.put_edge-requires-clause-lone
put_edge-requires-clause-lone c = c.self.invariant.lone _ _

pub invariant_of-self : goal.invariant_of-self
invariant_of-self c =
    let none : wire_test c.node.result c.node-2.result c.args.port c.no_place-full.result ≡ None = answer_done _ (sym c.in_ok-wire_test.ensures) in
    let fits = wire_fits c.node.result c.node-2.result c.args.port c.no_place-full.result none in
    let from = ap (λ (v : GraphView). is_some (node_at v.nodes c.args.from)) c.self.view_is ∙ ap is_some (sym c.node.ensures) ∙ fits.0 in
    let to = ap (λ (v : GraphView). is_some (node_at v.nodes c.args.to)) c.self.view_is ∙ ap is_some (sym c.node-2.ensures) ∙ fits.1 in
    rw c.put_edge.ensures (sound_wired _ from to (sym c.no_place-full.ensures ∙ fits.2) c.self.invariant)
