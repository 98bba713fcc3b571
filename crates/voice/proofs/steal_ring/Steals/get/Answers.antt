use Rattle.std.proofs.Common.{◌≡◌, ◌∙◌, ◌+◌, ◌-◌, ◌%◌, ◌<◌, min, ap, sym, arith, length}
use Rattle.voice.specs.declared.steals.Steals.{Steals}
use Rattle.voice.specs.Steals.{StealLog}
use Rattle.voice.proofs.Records.{log_long, found_out, read_held}
use Rattle.voice.proofs.steal_ring.Steals.get.Goals as goal

pub returns-then-held-i : goal.returns-then-held-i
returns-then-held-i c = sym (found_out c.args.i c.args.self.now.newest (omega (arith, c.len-held.ensures.value, c.if-held-i.true)))

pub returns : goal.returns
returns c =
    let i = c.self.inside in
    let s : Steals = record { rows = i.rows; total = i.total; next = i.next } in
    let long = c.self.invariant.1 in
    let many : c.len-held.result ≡ min s.total 64 = c.len-held.ensures.value ∙ ap (λ (b : StealLog). length b.newest) (sym c.self.view_is) ∙ log_long s long in
    let held : c.args.i < min s.total 64 = omega (arith, many, c.if-held-i.false) in
    let at : c.place_back.result ≡ (s.next % 64 + (64 - (min s.total 64 - c.args.i))) % 64 = rw many at c.place_back.ensures in
    rw (← c.self.view_is) (read_held s long _ c.args.i _ held at)
