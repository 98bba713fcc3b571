use Rattle.std.proofs.Common.{rules, ◌≡◌, ◌∙◌, sym, ap, false, length}
use lib.Dec.{leb}
use borrow.Author.Tests.{leb-false}
use Rattle.graph.specs.Sound.{id_of}
use Rattle.graph.proofs.Kept.{sound_snoc, kind_ports}
use Rattle.graph.proofs.audio_graph.AudioGraph.add_node.Goals as goal

pub invariant_of-self : goal.invariant_of-self
invariant_of-self c =
    let room : leb 512 (length c.self.inside.nodes.items) ≡ false = search rules in
    rw c.push.ensures.items (sound_snoc _ (ap id_of c.host_node.ensures ∙ search rules) (rw c.host_node.ensures (kind_ports c.args.kind.now c.args.n.ports c.args.n.required (sym c.is_bad_kind.ensures ∙ c.if-is_bad_kind.false))) (leb-false _ _ room) c.in-Ok.ensures.0 c.self.invariant)
