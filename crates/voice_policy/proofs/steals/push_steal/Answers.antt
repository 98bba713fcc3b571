use Rattle.std.proofs.Common.{rules, ◌≡◌, length}
use Rattle.voice.proofs.Records.{log_push}
use Rattle.voice_policy.proofs.steals.push_steal.Goals as goal

pub returns : goal.returns
returns c =
    let s = c.args.s in
    let long : length s.rows ≡ 64 = search rules in
    log_push s long c.args.r _ (c.saturating_add.ensures)
