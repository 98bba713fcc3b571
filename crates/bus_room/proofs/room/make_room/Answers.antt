use Prim.Native.Nat.{◌+◌, ◌-◌, ◌<◌}
use native.Mathlib.Omega.{arith}
use mathlib.Core.Path.{◌≡◌, sym, ap, ◌∙◌}
use mathlib.Core.List.{[]}
use lib.ListN.{get_or}
use Rattle.std.specs.Prelude.{None, Some}
use Rattle.voice_rows.specs.Rows.{voice_of, voices_in}
use Rattle.voice_rows.specs.Found.{found_in}
use Rattle.model.specs.Spawn.{next_out}
use Rattle.memory.specs.View.{model_of}
use Rattle.memory.specs.Lent.{lent_spawn}
use Rattle.bus_room.specs.Reclaimed.{reclaimed}
use Rattle.bus_room.proofs.Laws.{reclaim_port, reclaim_over, reclaim_one}
use Rattle.bus_room.proofs.room.make_room.Goals as goal

pub loop-preserved : goal.loop-preserved
loop-preserved c =
    let bus = c.args.bus in
    let rank = c.args.rank in
    let l = c.loop in
    let left = c.args.fuel - l.counter in
    let full = sym c.is_some.ensures ∙ c.if-is_some.false in
    let vs = voices_in l.voices in
    let some : 0 < left = omega arith in
    let less : c.args.fuel - (l.counter + 1) ≡ left - 1 = omega arith in (
      λ m.
          let old = model_of (lent_spawn l.state l.nodes l.edges l.voices l.steals m) in
          let next : next_out old.shared bus rank old.voices ≡ Some (get_or vs c.in-Some.row (voice_of [])) = sym c.next_out.ensures.is ∙ ap (λ r. found_in r vs) c.in-Some.is in
          let now = model_of (lent_spawn c.cut_voice-state.result c.cut_voice-state.new.nodes c.cut_voice-state.new.edges c.cut_voice-state.new.voices c.cut_voice-state.new.steals m) in
          ap (λ k. reclaimed k bus rank now) less ∙ sym (reclaim_one bus rank old l.port (l.invariant.1 m) full left _ _ some next (c.cut_voice-state.ensures m)) ∙ l.invariant.0 m,
      λ m. c.bus_port-port-in-loop.ensures,
    )

pub returns-then-is_some : goal.returns-then-is_some
returns-then-is_some c =
    let l = c.loop in
    λ m. record {
      is = sym (reclaim_port (c.args.fuel - l.counter) c.args.bus c.args.rank (model_of (lent_spawn l.state l.nodes l.edges l.voices l.steals m)) l.port (l.invariant.1 m) (sym c.is_some.ensures ∙ c.if-is_some.true)) ∙ l.invariant.0 m;
      port = l.invariant.1 m;
    }

pub returns-in_default : goal.returns-in_default
returns-in_default c =
    let bus = c.args.bus in
    let rank = c.args.rank in
    let l = c.loop in
    let full = sym c.is_some.ensures ∙ c.if-is_some.false in
    λ m.
    let old = model_of (lent_spawn l.state l.nodes l.edges l.voices l.steals m) in
    let none : next_out old.shared bus rank old.voices ≡ None = sym c.next_out.ensures.is ∙ ap (λ r. found_in r (voices_in l.voices)) c.in_default.is in
    record {
      is = sym (reclaim_over bus rank old l.port (l.invariant.1 m) full (c.args.fuel - l.counter) none) ∙ l.invariant.0 m;
      port = l.invariant.1 m;
    }

pub returns-after-loop : goal.returns-after-loop
returns-after-loop c =
    let l = c.loop in
    let over : c.args.fuel - l.counter ≡ 0 = omega arith in
    λ m. record { is = sym (ap (λ k. reclaimed k c.args.bus c.args.rank (model_of (lent_spawn l.state l.nodes l.edges l.voices l.steals m))) over) ∙ l.invariant.0 m; port = l.invariant.1 m }
