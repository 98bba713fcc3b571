use Rattle.voice.proofs.Numbered.{rises}
use Rattle.voice.proofs.voices.Voices.find.Goals as goal

pub voice_of-requires : goal.voice_of-requires
voice_of-requires c = rw c.as_slice.ensures.value (rises c.self.invariant)
