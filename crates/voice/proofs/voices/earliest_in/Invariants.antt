use Rattle.std.proofs.Common.{◌≡◌, take}
use Rattle.voice.specs.Voice.{fades_on, earliest}
use Rattle.voice.proofs.voices.earliest_in.Given as goal

abbrev pub invariant-loop-v : goal.invariant-loop-v
invariant-loop-v l = l.best ≡ earliest (fades_on l.bus) (take l.v-index l.rows)
