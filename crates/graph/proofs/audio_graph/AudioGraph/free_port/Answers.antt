use Rattle.std.proofs.Common.{◌∙◌, sym, ap}
use Rattle.lists.proofs.Find.{find_in}
use Rattle.graph.specs.Node.{is_node, node_at}
use Rattle.graph.proofs.audio_graph.AudioGraph.free_port.Goals as goal

pub lowest_port-requires : goal.lowest_port-requires
lowest_port-requires c =
    let found = ap (λ v. node_at v.nodes c.args.to) c.self.view_is ∙ sym c.node.ensures ∙ c.in_ok-n.was in
    c.self.invariant.ports c.in_ok-n.n (find_in (is_node c.args.to) c.self.inside.nodes.items c.in_ok-n.n found).0
