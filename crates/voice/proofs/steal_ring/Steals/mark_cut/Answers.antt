use Rattle.voice.specs.declared.steals.Steals.{Steals}
use Rattle.voice.proofs.Records.{mark_late, mark_early, mark_held}
use Rattle.voice.proofs.steal_ring.Steals.mark_cut.Goals as goal
use Rattle.voice.proofs.steal_ring.Steals.mark_cut.Goals.{else-number-self-via-then-number-self+else-self-number-le64, else-number-self-via-else-number-self}

pub returns-then-self-number-le64 : goal.returns-then-self-number-le64
returns-then-self-number-le64 c =
    let i = c.self.inside in
    let s : Steals = record { rows = i.rows; total = i.total; next = i.next } in
    let long = c.self.invariant.1 in
    rw (← c.self.view_is) (mark_held s long _ c.args.number _ c.if-number-self.true c.if-self-number-le64.true c.place_back-place.ensures)

pub returns-else-number-self : goal.returns-else-number-self
returns-else-number-self c =
    let i = c.self.inside in
    let s : Steals = record { rows = i.rows; total = i.total; next = i.next } in
    let long = c.self.invariant.1 in
    rw (← c.self.view_is)
    (elim c.else-number-self.branch [
      | else-number-self-via-then-number-self+else-self-number-le64 w ↦ mark_early s long c.args.number w.if-self-number-le64.false
      | else-number-self-via-else-number-self w ↦ mark_late s long c.args.number w.if-number-self.false
    ])
