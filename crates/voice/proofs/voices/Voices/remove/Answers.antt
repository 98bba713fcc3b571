use Rattle.voice.proofs.Numbered.{rises, numbered_filter}
use Rattle.voice.proofs.voices.Voices.remove.Goals as goal

pub drop_voice-requires : goal.drop_voice-requires
drop_voice-requires c = rises c.self.invariant

pub invariant_of-self : goal.invariant_of-self
invariant_of-self c = rw c.drop_voice.ensures (numbered_filter c.self.invariant _)
