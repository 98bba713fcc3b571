use Rattle.std.proofs.Common.{◌∙◌, sym}
use Rattle.voice.specs.declared.steals.Steals.{Steals}
use Rattle.voice.proofs.Records.{log_long}
use Rattle.voice.proofs.steal_ring.Steals.len.Goals as goal

pub returns-clause-value : goal.returns-clause-value
returns-clause-value c =
    let i = c.self.inside in
    let s : Steals = record { rows = i.rows; total = i.total; next = i.next } in
    let long = c.self.invariant.1 in
    rw (← c.self.view_is) (c.min.ensures ∙ sym (log_long s long))
