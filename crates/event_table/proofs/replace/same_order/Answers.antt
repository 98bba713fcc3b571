use Rattle.std.proofs.Common.{◌≡◌, sym, ◌∙◌, get_or, arith}
use Rattle.words.specs.Rows.{row_at}
use Rattle.words.specs.Fields.{name_at}
use Rattle.event_table.proofs.Keys.{value_on, glide_on}
use Rattle.event_table.proofs.replace.same_order.Goals as goal

pub returns-then-k : goal.returns-then-k
returns-then-k c =
    let row = row_at 15 c.args.i c.args.t.now in
    c.same_called.ensures
    ∙ value_on c.args.k.now (get_or row 9 0) (get_or row 10 0) (get_or row 11 0) (get_or row 12 0) (get_or row 13 0) (get_or row 14 0) (name_at row 4) (sym c.word_at.ensures ∙ c.in-1.is) c.if-k.true

pub returns-then-k-2 : goal.returns-then-k-2
returns-then-k-2 c =
    let row = row_at 15 c.args.i c.args.t.now in
    let two : get_or row 9 0 ≡ 2 = sym c.word_at.ensures ∙ c.in-2.is in
    c.same_called-then-k-2.ensures
    ∙ glide_on c.args.k.now (get_or row 9 0) (get_or row 10 0) (get_or row 11 0) (get_or row 12 0) (get_or row 13 0) (get_or row 14 0) (name_at row 4) (λ z. omega (arith, two, z)) two c.if-k-2.true
