use Rattle.graph.proofs.Kept.{sound_filter}
use Rattle.graph.proofs.audio_graph.AudioGraph.disconnect.Goals as goal

pub drop_edge-requires-clause-lone : goal.drop_edge-requires-clause-lone
drop_edge-requires-clause-lone c = c.self.invariant.lone _ _

pub invariant_of-self : goal.invariant_of-self
invariant_of-self c = rw c.drop_edge.ensures (sound_filter _ c.self.invariant)
