use Rattle.std.specs.Prelude.{Some}
use mathlib.Core.Path.{sym, ap, ◌∙◌}
use borrow.Author.Tests.{eqb-true}
use lib.ListN.{take}
use Rattle.node.specs.declared.record.NodeId.{NodeId}
use Rattle.graph.specs.Node.{node_at}
use Rattle.model.specs.Voice.{node_level}
use Rattle.graph_rows.specs.Node.{nodes_in}
use Rattle.voice_rows.proofs.First.{leftmax_found}
use Rattle.voice_rows.proofs.levels.NodeWalk.level_of.Goals as goal

pub returns-then-eq-clause-is : goal.returns-then-eq-clause-is
returns-then-eq-clause-is c =
    let w = c.advance.new.self in
    let id = c.args.id in
    let is = sym (ap (λ (k : NodeId). k.0) c.id_at.ensures) ∙ eqb-true _ _ (sym c.eq.ensures ∙ c.if-eq.true) in
    ap Some c.level_at.ensures
    ∙ ap node_level (leftmax_found w.nodes.now w.n c.min-m.result c.min-m.ensures id w.row c.if-self-m.true w.rising is)
    ∙ ap (λ t. node_level (node_at (take w.n (nodes_in t)) id)) c.advance.ensures.0
    ∙ ap (λ n. node_level (node_at (take n (nodes_in c.args.self.now.nodes.now)) id)) c.advance.ensures.1
