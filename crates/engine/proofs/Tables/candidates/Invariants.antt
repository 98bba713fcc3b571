use Rattle.std.proofs.Common.{◌≡◌, ◌≤◌, take, length}
use Rattle.voice.specs.Voice.{counted}
use Rattle.model.specs.Voice.{candidates}
use Rattle.engine.proofs.Tables.candidates.Given as goal

abbrev pub invariant-loop-v : goal.invariant-loop-v
invariant-loop-v l = (l.tracked.items ≡ candidates l.fn.self.shared (counted l.fn.scope l.fn.bus) (take l.v-index l.v-items)) × (length l.tracked.items ≤ l.v-index)
