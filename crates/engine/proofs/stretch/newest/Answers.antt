-- An array that is made by its places has at each place what the call there gave.
use Rattle.std.proofs.Common.{ℕ, List, ◌≡◌, ◌+◌, ◌-◌, ◌≤◌, length, replicate, ap, ◌∙◌, arith, rules, tests}
use mathlib.Core.Path.{ap₂}
use lib.ListN.{length-append, length-replicate}
use Rattle.std.specs.Prelude.{unwrap_or}
use Rattle.lists.specs.declared.rows.Table.{Table}
use Rattle.lists.proofs.FromFn.{made_is}
use Rattle.voice.specs.Steals.{found_at}
use Rattle.voice.specs.declared.steals.StealRecord.{StealRecord}
use Rattle.busiest.specs.Newest.{no_record, newest_of}
use Rattle.busiest.proofs.Rows.{found_row}
use Rattle.engine.proofs.stretch.newest.Goals as goal

abbrev table : List StealRecord → ℕ → Table StealRecord 64
table rows count = record { rows = rows; count = count }

pub returns : goal.returns
returns c =
    let l = c.args.steals.now.newest in
    let all = (newest_of l).rows in
    let few : length l ≤ 64 = omega (arith, c.len.ensures.value, c.len.ensures.fits) in
    let wide : length all ≡ 64 =
    length-append l (replicate (64 - length l) no_record)
    ∙ ap (λ m. length l + m) (length-replicate (64 - length l) no_record) ∙ omega arith in
    let rows : c.from_fn.result ≡ all = made_is _ _ c.from_fn.result all no_record 64 (λ i x q h p.
    let there : x ≡ unwrap_or (found_at i l) no_record = search (rules, tests) in
    (search rules, there ∙ found_row l (64 - length l) i no_record)) wide c.from_fn.ensures.items in
    ap₂ table rows c.len.ensures.value
