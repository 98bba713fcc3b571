use native.Mathlib.Omega.{arith}
use mathlib.Core.Bool.{not}
use mathlib.Core.Path.{sym, ap, ◌∙◌}
use lib.ListN.{take}
use Rattle.edges.specs.Wiring.{listed}
use Rattle.voice_rows.specs.Rows.{voices_in}
use Rattle.call_render.proofs.Events.{note_freed, note_unknown, note_known}
use Rattle.call_render.proofs.apply.note.Goals as goal
use Rattle.call_render.proofs.apply.note.Goals.{then-is_listed-via-then-is_listed, then-is_listed-via-else-is_listed+then-is_none}

pub returns-then-is_listed : goal.returns-then-is_listed
returns-then-is_listed c =
    let s = c.args in
    let rows = voices_in s.voices.now in
    let vs = take s.held rows in
    let test = ap (λ l. listed l s.w.0) (sym c.as_slice.ensures) ∙ sym c.is_listed.ensures in
    elim c.then-is_listed.branch [
      | then-is_listed-via-then-is_listed w ↦ note_freed vs s.w s.freed.now (test ∙ w.if-is_listed.true)
      | then-is_listed-via-else-is_listed+then-is_none w ↦
          note_unknown vs s.w s.freed.now (test ∙ w.if-is_listed.false) w.find_voice.result s.held rows w.find_voice.ensures (w.is_none.ensures ∙ ap not w.if-is_none.true)
    ]

pub returns : goal.returns
returns c =
    let s = c.args in
    let rows = voices_in s.voices.now in
    let vs = take s.held rows in
    let test = ap (λ l. listed l s.w.0) (sym c.as_slice.ensures) ∙ sym c.is_listed.ensures in
    note_known vs s.w s.freed.now (test ∙ c.if-is_listed.false) c.find_voice.result s.held rows c.find_voice.ensures (c.is_none.ensures ∙ ap not c.if-is_none.false) c.requires c.push.new.self c.push.ensures.stored (c.push.ensures.counted (omega (arith, c.requires.0)))
