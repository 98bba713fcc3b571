use Rattle.std.proofs.Common.{refl}
use Rattle.node.specs.Node.{reported}
use Rattle.graph.proofs.Kept.{sound_changed, changed_is}
use Rattle.graph.proofs.audio_graph.AudioGraph.report.Goals as goal

pub invariant_of-self : goal.invariant_of-self
invariant_of-self c = rw c.report_at.ensures (sound_changed c.args.id (reported c.args.level c.args.done) (λ x. refl) (λ x. refl) c.self.invariant)

pub returns : goal.returns
returns c = rw (c.report_at.ensures, ← c.self.view_is) (changed_is _ c.args.id (reported c.args.level c.args.done) (λ x. refl) c.self.invariant)
