use Rattle.std.proofs.Common.{◌≡◌, ◌∙◌, sym, ap, refl, None, [], ◌∷◌, not}
use Rattle.lists.specs.Find.{filter_o}
use Rattle.edges.specs.Wiring.{among, drop_touching}
use Rattle.graph.specs.Node.{is_node, node_at}
use Rattle.graph.specs.Change.{ids_of}
use Rattle.graph.specs.Refuse.{host_refusal, host_test}
use Rattle.graph.proofs.Calls.{answer_done, same_view}
use Rattle.graph.proofs.Kept.{sound_without, host_ids}
use Rattle.graph.proofs.audio_graph.AudioGraph.remove_node.Goals as goal

pub invariant_of-self : goal.invariant_of-self
invariant_of-self c =
    let none : host_refusal c.args.self.now c.args.id ≡ None = ap host_test (sym c.node.ensures) ∙ answer_done _ (sym c.in_ok-host_test.ensures) in
    let ids : c.args.id.0 ∷ [] ≡ ids_of (is_node c.args.id) c.self.inside.nodes.items = host_ids c.args.id c.self.invariant (ap (λ v. host_test (node_at v.nodes c.args.id)) c.self.view_is ∙ none) in
    rw (c.drop_node.ensures, c.drop_touching.ensures ∙ ap (drop_touching _) ids) (sound_without _ c.self.invariant)

pub returns-clause-graph : goal.returns-clause-graph
returns-clause-graph c =
    let none : host_refusal c.args.self.now c.args.id ≡ None = ap host_test (sym c.node.ensures) ∙ answer_done _ (sym c.in_ok-host_test.ensures) in
    let ids : c.args.id.0 ∷ [] ≡ ids_of (is_node c.args.id) c.self.inside.nodes.items = host_ids c.args.id c.self.invariant (ap (λ v. host_test (node_at v.nodes c.args.id)) c.self.view_is ∙ none) in
    rw (none, ← c.self.view_is)
    (same_view _ _ c.drop_node.ensures (c.drop_touching.ensures ∙ ap (drop_touching _) ids) (c.kept_sink-self-inside.ensures ∙ ap (λ l. filter_o (λ k. not (among l k)) c.self.inside.sink) ids) refl refl refl)
