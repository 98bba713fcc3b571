use Rattle.call_clear.proofs.Flags.{FlagsFrom}
use Rattle.call_clear.proofs.silence.done_flags.Given as goal

abbrev pub invariant-loop-i : goal.invariant-loop-i
invariant-loop-i l = FlagsFrom l.nodes l.n l.first l.count l.i l.flags
