use mathlib.Core.Path.{◌≡◌}
use lib.ListN.{length, take, get_or}
use Rattle.prepare.proofs.Mapped.{Mapped}
use Rattle.order_table.proofs.LiveIds.named.Given as goal

abbrev pub invariant-loop-i : goal.invariant-loop-i
invariant-loop-i l = (length l.order ≡ 512) × Mapped (λ x. get_or l.self.rows.now x 0) l.order l.i (take l.r.rows.count l.r.rows.rows)
