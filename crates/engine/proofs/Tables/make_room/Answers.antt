use Rattle.std.proofs.Common.{◌≡◌, ◌+◌, ◌-◌, ◌<◌, ◌∙◌, sym, ap, arith, None, Some}
use Rattle.model.specs.Spawn.{next_out}
use Rattle.model.specs.Model.{port_free}
use Rattle.engine.specs.Spawning.{reclaimed}
use Rattle.engine.proofs.Reclaiming.{reclaim_port, reclaim_over, reclaim_one}
use Rattle.engine.proofs.Tables.make_room.Goals as goal

pub loop-preserved : goal.loop-preserved
loop-preserved c =
    let bus = c.args.bus in
    let rank = c.args.rank in
    let l = c.loop in
    let left = c.args.fuel - l.counter in
    let full = sym c.is_some.ensures ∙ c.if-is_some.false in
    let some : 0 < left = omega arith in
    let less : c.args.fuel - (l.counter + 1) ≡ left - 1 = omega arith in
    let next : next_out l.self.shared bus rank l.self.voices ≡ Some c.in-Some.v = sym c.next_out.ensures ∙ c.in-Some.is in (
      ap (λ k. reclaimed k bus rank c.cut_voice.new.self) less ∙ sym (reclaim_one bus rank l.self l.port l.invariant.1 full left c.in-Some.v c.cut_voice.new.self some next c.cut_voice.ensures) ∙ l.invariant.0,
      c.free_port-port-in-loop.ensures ∙ ap (port_free bus) c.self-in-loop.view_is,
    )

pub returns-then-is_some : goal.returns-then-is_some
returns-then-is_some c =
    let l = c.loop in
    record {
      is = sym (reclaim_port (c.args.fuel - l.counter) c.args.bus c.args.rank l.self l.port l.invariant.1 (sym c.is_some.ensures ∙ c.if-is_some.true)) ∙ l.invariant.0;
      port = l.invariant.1;
    }

pub returns-in_default : goal.returns-in_default
returns-in_default c =
    let bus = c.args.bus in
    let rank = c.args.rank in
    let l = c.loop in
    let full = sym c.is_some.ensures ∙ c.if-is_some.false in
    let none : next_out l.self.shared bus rank l.self.voices ≡ None = sym c.next_out.ensures ∙ c.in_default.is in
    record {
      is = sym (reclaim_over bus rank l.self l.port l.invariant.1 full (c.args.fuel - l.counter) none) ∙ l.invariant.0;
      port = l.invariant.1;
    }

pub returns-after-loop : goal.returns-after-loop
returns-after-loop c =
    let l = c.loop in
    let over : c.args.fuel - l.counter ≡ 0 = omega arith in
    record { is = sym (ap (λ k. reclaimed k c.args.bus c.args.rank l.self) over) ∙ l.invariant.0; port = l.invariant.1 }
