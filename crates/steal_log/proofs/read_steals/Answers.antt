-- `steal_log::read_steals` meets its contract: an array that is made by its places has at each place what the call there gave.
use Rattle.std.proofs.Common.{ℕ, List, [], ◌≡◌, ap, length, rules, tests}
use Rattle.lists.proofs.FromFn.{made_is}
use Rattle.voice.specs.declared.steals.StealRecord.{StealRecord}
use Rattle.voice.specs.declared.steals.Steals.{Steals}
use Rattle.steal_log.specs.Rows.{steal_of, records_in}
use Rattle.steal_log.proofs.Records.{room}
use Rattle.steal_log.proofs.read_steals.Goals as goal

abbrev ring : ℕ → ℕ → List StealRecord → Steals
ring total next rows = record { rows = rows; total = total; next = next }

pub returns : goal.returns
returns c =
    let t = c.args.t.now in
    let wide : length t ≡ 320 = search rules in
    ap (ring c.args.ring.total c.args.ring.next)
    (made_is _ _ c.from_fn.result (records_in t) (steal_of []) 64 (λ i x q h p. (search rules, search (rules, tests))) (room t wide) c.from_fn.ensures.items)
