use Rattle.std.proofs.Common.{◌≡◌, ◌∙◌, sym, true, rules, tests}
use Rattle.board.proofs.Seals.{seal_more}
use Rattle.board.proofs.boards.Board.seal.Goals as goal

pub invariant_of-self : goal.invariant_of-self
invariant_of-self g c =
    let fits : c.accepts.result ≡ true = search (rules, tests) in
    let none : c.none_waits.result ≡ true = search (rules, tests) in
    seal_more c.self.inside.seal c.args.profile c.self.inside.store c.self.inside.keyboards (sym c.is_some.ensures ∙ c.if-is_some.false) (sym c.accepts.ensures ∙ fits) (sym c.none_waits.ensures ∙ none) c.self.invariant
