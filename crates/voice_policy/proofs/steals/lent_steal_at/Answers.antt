use Rattle.std.proofs.Common.{rules, ◌≡◌, ◌+◌, ◌≤◌, ◌<◌, ◌-◌, ◌%◌, min, length, arith, ◌∙◌}
use Rattle.voice.proofs.Records.{read_none, read_held}
use Rattle.voice_policy.proofs.steals.lent_steal_at.Goals as goal

pub returns-then-n-i : goal.returns-then-n-i
returns-then-n-i c =
    let s = c.args.s.now in
    let long : length s.rows ≡ 64 = search rules in
    let over : min s.total 64 ≤ c.args.i = omega (arith, c.min-n.ensures) in
    read_none s long c.args.i over

pub returns : goal.returns
returns c =
    let s = c.args.s.now in
    let long : length s.rows ≡ 64 = search rules in
    let held : c.args.i < min s.total 64 = omega (arith, c.min-n.ensures) in
    let at : c.place_back.result ≡ (s.next % 64 + (64 - (min s.total 64 - c.args.i))) % 64 = rw c.min-n.ensures at c.place_back.ensures in
    read_held s long _ c.args.i _ held at
