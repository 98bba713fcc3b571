use Rattle.std.proofs.Common.{◌≡◌, ◌≤◌, ◌<◌, ◌+◌, ◌∙◌, arith, sym, ap, subst}
use Rattle.std.specs.Prelude.{None}
use Rattle.std.specs.Option.{SomeIff}
use borrow.Author.Tests.{ne_eqb}
use Rattle.lists.proofs.Find.{none_find}
use Rattle.graph.specs.View.{GraphView}
use Rattle.graph.specs.Node.{is_node, node_at}
use Rattle.graph.proofs.audio_graph.AudioGraph.node_past.Goals as goal

pub returns-in_err-id : goal.returns-in_err-id
returns-in_err-id c =
    let k = c.args.first.0 + c.args.place in
    let over = subst (λ o. SomeIff o (k < 4294967296) k) c.in_err-id.was c.checked_add.ensures in
    let ns = c.self.inside.nodes.items in
    let none : node_at ns (record { 0 = k }) ≡ None =
    none_find (is_node (record { 0 = k })) ns (λ n i. ne_eqb n.id.0 k (λ e. over (omega (arith, e, c.self.invariant.below n i, c.self.invariant.ids)))) in
    c.from_residual.ensures ∙ sym (ap (λ (v : GraphView). node_at v.nodes (record { 0 = k })) (sym c.self.view_is) ∙ none)
