use Rattle.std.proofs.Common.{◌≡◌, ◌++◌, take, drop, map}
use Rattle.voice.specs.Voice.{moved, further}
use Rattle.voice.proofs.voices.move_in.Given as goal

abbrev pub invariant-loop-v : goal.invariant-loop-v
invariant-loop-v l = l.rows ≡ map (moved (further l.block)) (take l.v-index l.initial.rows) ++ drop l.v-index l.initial.rows
