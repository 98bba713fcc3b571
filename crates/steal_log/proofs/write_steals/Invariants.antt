use mathlib.Core.Path.{◌≡◌}
use lib.ListN.{length}
use Rattle.words.proofs.Copying.{Copying}
use Rattle.steal_log.specs.Rows.{records_in}
use Rattle.steal_log.proofs.write_steals.Given as goal

abbrev pub invariant-loop-i : goal.invariant-loop-i
invariant-loop-i l = (length l.t ≡ length l.initial.t) × Copying 64 l.r-items (records_in l.t) l.i
