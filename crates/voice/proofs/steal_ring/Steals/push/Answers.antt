use Rattle.std.proofs.Common.{◌≡◌, ◌∙◌, ◌+◌, ◌%◌, ap, sym, arith}
use lib.ListN.{set}
use Rattle.voice.specs.declared.steals.Steals.{Steals}
use Rattle.voice.specs.Steals.{log_of}
use Rattle.voice.proofs.Records.{log_push}
use Rattle.voice.proofs.steal_ring.Steals.push.Goals as goal

pub returns : goal.returns
returns c =
    let i = c.self.inside in
    let s : Steals = record { rows = i.rows; total = i.total; next = i.next } in
    let long = c.self.invariant.1 in
    let small : s.next % 64 ≡ s.next = omega (arith, c.self.invariant.0) in
    let total = c.saturating_add-self-inside.result in
    rw (← c.self.view_is)
    (ap (λ n. log_of (record { rows = set s.rows n c.args.r; total = total; next = (n + 1) % 64 })) (sym small)
    ∙ log_push s long c.args.r total c.saturating_add-self-inside.ensures)
