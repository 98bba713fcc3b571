use Rattle.voice.proofs.Numbered.{numbered_filter}
use Rattle.voice.proofs.voices.Voices.remove_all.Goals as goal

pub invariant_of-self : goal.invariant_of-self
invariant_of-self c = rw c.drop_any.ensures (numbered_filter c.self.invariant _)
