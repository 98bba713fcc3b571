use Rattle.std.proofs.Common.{◌≡◌, ◌≤◌, length, take}
use Rattle.voice.specs.Voices.{ended_ids}
use Rattle.voice.proofs.voices.ended_in.Given as goal

abbrev pub invariant-loop-v : goal.invariant-loop-v
invariant-loop-v l = (l.ids.items ≡ ended_ids l.fade_length (take l.v-index l.rows)) × (length l.ids.items ≤ l.v-index)
