use Rattle.std.proofs.Common.{◌≡◌, ◌∙◌, ◌+◌, sym, ap, cond}
use Rattle.std.specs.Prelude.{Some}
use Rattle.graph.specs.Node.{node_at}
use Rattle.graph.specs.Does.{changed_node}
use Rattle.voice.specs.Voice.{id}
use Rattle.model.specs.Order.{with_last}
use Rattle.engine.specs.Parts.{ordered_graph}
use Rattle.engine.proofs.Doing.{found_again}
use Rattle.engine.proofs.order.order_node.Goals as goal

pub returns-clause-graph : goal.returns-clause-graph
returns-clause-graph c =
    let g = c.args.graph.now in
    let o = c.args.order in
    let n = c.in-Some.n in
    let k = id (c.args.first.0 + c.args.place) in
    let found : node_at g.nodes k ≡ Some n = ap (λ p. node_at g.nodes (id (c.args.first.0 + p))) (sym c.from.ensures) ∙ sym c.node_past.ensures ∙ c.in-Some.is in
    c.set_last.ensures
    ∙ ap (λ x. changed_node x (with_last o) g) (found_again g.nodes k n found)
    ∙ sym (ap (λ x. ordered_graph x o g) found ∙ ap (λ b. cond b (changed_node (Some n) (with_last o) g) g) (sym c.takes.ensures ∙ c.if-not-takes.false))
