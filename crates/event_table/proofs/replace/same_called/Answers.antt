use Rattle.std.proofs.Common.{◌≡◌, ◌%◌, get_or, true, refl, sym, ap, ◌∙◌}
use mathlib.Core.Bool.{false≢true}
use borrow.Author.Tests.{eqb-true, eq-eqb}
use Rattle.node.specs.Name.{name_length}
use Rattle.words.specs.Fields.{name_at}
use Rattle.words.specs.Rows.{row_at}
use Rattle.event_table.proofs.Named.{names_off, names_apart, names_same}
use Rattle.event_table.proofs.replace.same_called.Goals as goal
use Rattle.event_table.proofs.replace.same_called.Goals.{then-name_length, else-name_length}

pub returns-then-word_at-len : goal.returns-then-word_at-len
returns-then-word_at-len c =
    let ws = c.args.ws.now in
    let row = row_at 15 c.args.i c.args.t.now in
    elim c.if-name_length.branch [
      | then-name_length w ↦
          let theirs = ap (λ x. x % 256) w.word_at.ensures in
          let told : name_length (get_or ws 4 0 % 256) ≡ true = sym c.name_length.ensures ∙ w.if-name_length.true in
          c.same_text.ensures
          ∙ names_same (name_at ws 0) (get_or ws 0 0) (get_or ws 1 0) (get_or ws 2 0) (get_or ws 3 0) refl (get_or row 4 0) (get_or row 5 0) (get_or row 6 0) (get_or row 7 0) (get_or row 8 0) told
          (sym theirs ∙ eqb-true _ _ (sym w.value-is ∙ c.if-word_at-len.true))
      | else-name_length w ↦ absurd (false≢true (sym (w.value-is ∙ w.if-name_length.false) ∙ c.if-word_at-len.true))
    ]

pub returns-else-word_at-len : goal.returns-else-word_at-len
returns-else-word_at-len c =
    let ws = c.args.ws.now in
    let row = row_at 15 c.args.i c.args.t.now in
    elim c.if-name_length.branch [
      | then-name_length w ↦
          let theirs = ap (λ x. x % 256) w.word_at.ensures in
          c.if-word_at-len.false
          ∙ names_apart (name_at ws 0) (get_or ws 0 0) (get_or ws 1 0) (get_or ws 2 0) (get_or ws 3 0) refl (get_or row 4 0) (get_or row 5 0) (get_or row 6 0) (get_or row 7 0) (get_or row 8 0)
          (λ z. false≢true (sym c.if-word_at-len.false ∙ w.value-is ∙ eq-eqb _ _ (theirs ∙ z)))
      | else-name_length w ↦
          w.value-is
          ∙ w.if-name_length.false
          ∙ names_off (name_at ws 0) (get_or ws 0 0) (get_or ws 1 0) (get_or ws 2 0) (get_or ws 3 0) refl (get_or row 4 0) (get_or row 5 0) (get_or row 6 0) (get_or row 7 0) (get_or row 8 0)
          (sym c.name_length.ensures ∙ w.if-name_length.false)
    ]
