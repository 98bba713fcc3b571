use Rattle.std.proofs.Common.{rules, ap, ◌∙◌, ◌≡◌, length}
use Rattle.words.specs.Fields.{long_at}
use Rattle.state_words.proofs.OneRow.{one_row}
use Rattle.state_words.proofs.long_at.Goals as goal

pub returns : goal.returns
returns c =
    let all : length c.args.w.now ≡ 32 = search rules in
    c.long_at.ensures ∙ ap (λ l. long_at l c.args.k) (one_row c.args.w.now all)
