use Rattle.voice.specs.Voice.{further}
use Rattle.voice.proofs.Numbered.{numbered_moved}
use Rattle.voice.proofs.voices.Voices.move_fades.Goals as goal

pub invariant_of-self : goal.invariant_of-self
invariant_of-self c = rw c.move_each.ensures (numbered_moved c.self.invariant (further c.args.block))
