use Rattle.std.proofs.Common.{◌≡◌, ◌∙◌, sym, refl, true, false, rules, tests}
use Rattle.board.proofs.Begun.{fits, makes_held, refuses, new_with}
use Rattle.board.proofs.boards.Board.make_with_keyboards.Goals as goal

pub new-requires : goal.new-requires
new-requires g c =
    let range : c.is_in_range.result ≡ true = search (rules, tests) in
    (search rules, fits g.row.KEYBOARDS c.args.keyboards (sym c.is_in_range.ensures ∙ range))

pub returns-then-not-is_in_range : goal.returns-then-not-is_in_range
returns-then-not-is_in_range g c =
    let range : c.is_in_range.result ≡ false = search (rules, tests) in
    refuses c.args.making g.row.KEYBOARDS c.args.keyboards c.in_ok-store.store c.in_ok-store.ensures (sym c.is_in_range.ensures ∙ range)

pub returns : goal.returns
returns g c =
    let range : c.is_in_range.result ≡ true = search (rules, tests) in
    (refl, makes_held c.args.making g.row.KEYBOARDS c.args.keyboards c.in_ok-store.store c.new.result c.in_ok-store.ensures (sym c.is_in_range.ensures ∙ range) c.new.ensures)

pub invariant_of-result : goal.invariant_of-result
invariant_of-result g c =
    let range : c.is_in_range.result ≡ true = search (rules, tests) in
    new_with c.args.making g.row.KEYBOARDS c.args.keyboards c.in_ok-store.store c.new.result c.in_ok-store.ensures (sym c.is_in_range.ensures ∙ range) c.new.ensures
