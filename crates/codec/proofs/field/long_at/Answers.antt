-- The field is its two halves.
use Rattle.std.proofs.Common.{rules, ◌∙◌}
use Rattle.codec.specs.Field.{last}
use Rattle.codec.proofs.Halves.{halves}
use Rattle.codec.proofs.field.long_at.Goals as goal

pub returns : goal.returns
returns c =
    halves 4 c.args.s.now c.args.at last _ _ _ (search rules) (c.from.ensures ∙ c.word_at.ensures) c.after.ensures (c.from-2.ensures ∙ c.word_at-2.ensures)
