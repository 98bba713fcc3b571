use Rattle.std.proofs.Common.{◌≡◌, [], length, refl, rules}
use Rattle.words.proofs.Copying.{copy_start}
use Rattle.steal_log.specs.Rows.{steal_of, records_in}
use Rattle.steal_log.proofs.Records.{room}
use Rattle.steal_log.proofs.write_steals.Goals as goal

pub loop-i-init : goal.loop-i-init
loop-i-init c =
    let t = c.args.t.now in
    let wide : length t ≡ 320 = search rules in
    let rows = c.args.s.rows in
    let long : length rows ≡ 64 = search rules in
    (refl, copy_start (steal_of []) 64 rows (records_in t) long (room t wide))
