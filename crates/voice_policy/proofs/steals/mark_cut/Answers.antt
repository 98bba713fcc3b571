use Rattle.std.proofs.Common.{rules, ◌≡◌, ◌≤◌, ◌<◌, ◌-◌, length, arith}
use Rattle.voice.proofs.Records.{mark_late, mark_early, mark_held}
use Rattle.voice_policy.proofs.steals.mark_cut.Goals as goal
use Rattle.voice_policy.proofs.steals.mark_cut.Goals.{then-s-number-via-then-s-number, then-s-number-via-else-s-number+then-s-number-gt64}

pub returns-then-s-number : goal.returns-then-s-number
returns-then-s-number c =
    let s = c.args.s in
    let long : length s.rows ≡ 64 = search rules in
    elim c.then-s-number.branch [
      | then-s-number-via-then-s-number w ↦ mark_late s long c.args.number (omega arith)
      | then-s-number-via-else-s-number+then-s-number-gt64 w ↦ mark_early s long c.args.number (omega arith)
    ]

pub returns : goal.returns
returns c =
    let s = c.args.s in
    let long : length s.rows ≡ 64 = search rules in
    let new : c.args.number < s.total = omega arith in
    let near : s.total - c.args.number ≤ 64 = omega arith in
    mark_held s long _ c.args.number _ new near c.place_back-p.ensures
