use Rattle.std.proofs.Common.{◌≤◌, ◌<◌, ◌-◌, arith}
use Rattle.voice.specs.declared.steals.Steals.{Steals}
use Rattle.voice.proofs.Records.{numbered_late, numbered_early, numbered_held}
use Rattle.voice.proofs.steal_ring.Steals.numbered.Goals as goal
use Rattle.voice.proofs.steal_ring.Steals.numbered.Goals.{then-self-number-via-then-self-number, then-self-number-via-else-self-number+then-self-number-gt64}

pub returns-then-self-number : goal.returns-then-self-number
returns-then-self-number c =
    let i = c.self.inside in
    let s : Steals = record { rows = i.rows; total = i.total; next = i.next } in
    let long = c.self.invariant.1 in
    rw (← c.self.view_is)
    (elim c.then-self-number.branch [
      | then-self-number-via-then-self-number w ↦ numbered_late s long c.args.number (omega (arith, w.if-self-number.true))
      | then-self-number-via-else-self-number+then-self-number-gt64 w ↦ numbered_early s long c.args.number (omega (arith, w.if-self-number-gt64.true))
    ])

pub returns : goal.returns
returns c =
    let i = c.self.inside in
    let s : Steals = record { rows = i.rows; total = i.total; next = i.next } in
    let long = c.self.invariant.1 in
    let new : c.args.number < s.total = omega arith in
    let near : s.total - c.args.number ≤ 64 = omega arith in
    rw (← c.self.view_is) (numbered_held s long _ c.args.number _ new near c.place_back.ensures)
