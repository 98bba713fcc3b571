use Rattle.std.proofs.Common.{refl}
use Rattle.node.specs.Node.{with_last}
use Rattle.graph.proofs.Kept.{sound_changed, changed_is}
use Rattle.graph.proofs.audio_graph.AudioGraph.set_last.Goals as goal

pub invariant_of-self : goal.invariant_of-self
invariant_of-self c = rw c.order_at.ensures (sound_changed c.args.id (with_last c.args.order) (λ x. refl) (λ x. refl) c.self.invariant)

pub returns : goal.returns
returns c = rw (c.order_at.ensures, ← c.self.view_is) (changed_is _ c.args.id (with_last c.args.order) (λ x. refl) c.self.invariant)
