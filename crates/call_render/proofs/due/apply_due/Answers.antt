use Prim.Native.Nat.{◌/◌, ◌≤◌, ◌<◌, min}
use native.Mathlib.Omega.{arith}
use mathlib.Core.Path.{◌≡◌, sym, ap, ◌∙◌, subst}
use mathlib.Core.List.{[]}
use borrow.Author.Rules.{rules}
use lib.ListN.{length, take}
use Rattle.scheduler.specs.declared.event.Event.{Event}
use Rattle.voice_rows.specs.Rows.{voices_in}
use Rattle.graph_rows.specs.Node.{nodes_in}
use Rattle.event_table.specs.Rows.{event_of, events_in}
use Rattle.words.proofs.Rows.{rows_long}
use Rattle.words.proofs.InWords.{take_count}
use Rattle.call_render.specs.Applying.{EventApplied}
use Rattle.call_render.proofs.Events.{events_start, events_on, events_off, events_done}
use Rattle.call_render.proofs.due.apply_due.Goals as goal
use Rattle.call_render.proofs.due.apply_due.Goals.{then-is_due, else-is_due}

pub loop-i-init : goal.loop-i-init
loop-i-init c =
    let s = c.args in
    events_start s.deadline (events_in s.t.now) c.min-i-end.result (take s.s.voices (voices_in s.voices.now)) (take s.s.nodes (nodes_in s.nodes.now)) s.out.now s.freed.now c.requires.none

pub loop-i-preserved : goal.loop-i-preserved
loop-i-preserved c =
    let s = c.args in
    let l = c.loop-i in
    let n = c.min-i-end in
    let below = c.loop-i-test.true in
    let rows = events_in s.t.now in
    let vs = take s.s.voices (voices_in s.voices.now) in
    let start = take s.s.nodes (nodes_in s.nodes.now) in
    let ns = take s.s.nodes (nodes_in l.nodes) in
    let table : length s.t.now ≡ 3840 = search rules in
    let top : n.result ≤ length rows = omega (arith, n.ensures, rows_long 15 event_of s.t.now, ap (λ k. k / 15) table) in
    elim c.if-is_due.branch [
      | then-is_due w ↦
          let room : l.taken < length l.out = omega (arith, l.invariant.took, l.invariant.wide, n.ensures, below, c.requires.room) in
          let h = w.apply_event-outcome in
          let new = take s.s.nodes (nodes_in h.new.nodes) in
          let applied = subst (λ (e : Event). EventApplied vs e ns l.freed new h.new.freed h.result) w.event_at.ensures h.ensures in
          rw (w.nodes-is, w.freed-is, w.out-is, w.taken-is) (events_on s.deadline rows n.result vs start s.out.now (event_of []) ns l.freed l.out l.taken l.i l.invariant below top
          (sym c.is_due.ensures ∙ w.if-is_due.true) new h.new.freed h.result applied w.outcome_number.result w.outcome_number.ensures room)
      | else-is_due w ↦
          rw (w.nodes-is, w.freed-is, w.out-is, w.taken-is)
          (events_off s.deadline rows n.result vs start s.out.now (event_of []) ns l.freed l.out l.taken l.i l.invariant below top (sym c.is_due.ensures ∙ w.if-is_due.false))
    ]

pub returns : goal.returns
returns c =
    let s = c.args in
    let l = c.loop-i in
    let n = c.min-i-end in
    let table : length s.t.now ≡ 3840 = search rules in
    let top : n.result ≤ length (events_in s.t.now) = omega (arith, n.ensures, rows_long 15 event_of s.t.now, ap (λ k. k / 15) table) in
    let room : n.result ≤ 256 = omega (arith, n.ensures) in
    let count : n.result ≡ min s.s.events (length s.t.now / 15) = n.ensures ∙ ap (min s.s.events) (sym (ap (λ k. k / 15) table)) in
    events_done s.deadline (events_in s.t.now) n.result (take s.s.voices (voices_in s.voices.now)) (take s.s.nodes (nodes_in s.nodes.now)) s.out.now (take s.s.nodes (nodes_in l.nodes)) l.freed l.out l.taken l.i l.invariant c.loop-i-test.false top room (take s.s.events (events_in s.t.now)) (take_count 15 event_of s.t.now s.s.events n.result count)
