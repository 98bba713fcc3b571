use Rattle.voice.proofs.Numbered.{rises, numbered_begun}
use Rattle.voice.proofs.voices.Voices.begin_fade.Goals as goal

pub begin_at-requires : goal.begin_at-requires
begin_at-requires c = rises c.self.invariant

pub invariant_of-self : goal.invariant_of-self
invariant_of-self c = rw c.begin_at.ensures (numbered_begun c.self.invariant c.args.voice c.args.fade)
