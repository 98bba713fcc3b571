use Rattle.std.proofs.Common.{refl}
use Rattle.node.specs.declared.record.Node.{Node}
use Rattle.node.specs.Node.{with_noise}
use Rattle.graph.specs.Node.{next_noise}
use Rattle.graph.proofs.Kept.{sound_changed}
use Rattle.graph.proofs.audio_graph.AudioGraph.raise_noise.Goals as goal

pub invariant_of-self : goal.invariant_of-self
invariant_of-self c = rw c.raise_noise_at.ensures (sound_changed c.args.bus (λ (n : Node). with_noise (next_noise n.noise) n) (λ x. refl) (λ x. refl) c.self.invariant)
