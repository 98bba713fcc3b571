use lib.Dec.{eqb}
use mathlib.Core.Path.{sym, ap, ◌∙◌}
use mathlib.Core.Bool.{false≢true}
use borrow.Author.Tests.{eq-eqb, ne_eqb}
use Rattle.scheduler.specs.declared.event.Event.{Event}
use Rattle.words.proofs.Rows.{row_is}
use Rattle.event_table.specs.Rows.{event_of}
use Rattle.event_table.specs.Key.{replaces_by}
use Rattle.event_table.proofs.Keys.{off, on}
use Rattle.event_table.proofs.replace.is_replaced.Goals as goal
use Rattle.event_table.proofs.replace.is_replaced.Goals.{then-k-time_at, else-k-time_at}

pub returns-then-eq : goal.returns-then-eq
unfolding event_of
returns-then-eq c =
    let s = c.args in
    let k = s.k.now in
    let row = row_is 15 event_of s.t.now s.i in
    elim c.if-k-time_at.branch [
      | then-k-time_at w ↦
          (c.same_order.ensures
          ∙ on _ _ (ap (eqb k.voice.0) (sym w.long_at.ensures) ∙ sym w.eq.ensures ∙ sym w.value-is ∙ c.if-eq.true)
          ∙ on _ _ (eq-eqb _ _ (w.if-k-time_at.true ∙ c.time_at.ensures ∙ ap (λ (x : Event). x.time) row)))
          ∙ sym (ap (replaces_by k) row)
      | else-k-time_at w ↦ absurd (false≢true (sym (w.value-is ∙ ne_eqb _ _ w.if-k-time_at.false) ∙ c.if-eq.true))
    ]

pub returns-else-eq : goal.returns-else-eq
unfolding event_of
returns-else-eq c =
    let s = c.args in
    let k = s.k.now in
    let row = row_is 15 event_of s.t.now s.i in
    let time = c.time_at.ensures ∙ ap (λ (x : Event). x.time) row in
    elim c.if-k-time_at.branch [
      | then-k-time_at w ↦
          (c.if-eq.false
          ∙ off _ _ (ap (eqb k.voice.0) (sym w.long_at.ensures) ∙ sym w.eq.ensures ∙ sym w.value-is ∙ c.if-eq.false)
          ∙ on _ _ (eq-eqb _ _ (w.if-k-time_at.true ∙ time)))
          ∙ sym (ap (replaces_by k) row)
      | else-k-time_at w ↦ (w.value-is ∙ ne_eqb _ _ w.if-k-time_at.false ∙ off _ _ (ne_eqb _ _ (λ z. w.if-k-time_at.false (z ∙ sym time)))) ∙ sym (ap (replaces_by k) row)
    ]
