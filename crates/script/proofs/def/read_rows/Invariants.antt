-- `script::def::read_rows` meets its contract.
use Rattle.std.proofs.Common.{◌≡◌}
use Rattle.codec.specs.Field.{little, moved}
use Rattle.script.proofs.Reading.{Read}
use Rattle.script.proofs.def.read_rows.Given as goal

abbrev pub invariant-loop : goal.invariant-loop
invariant-loop g l =
    (l.rows.count ≡ l.counter)
    × Read g.T.Row.read g.T.Row.next g.row.N (little 1 l.s l.at) l.s (moved l.at 1) l.rows.rows l.from l.counter
