-- The field is its two halves.
use Rattle.std.proofs.Common.{rules, ◌∙◌}
use Rattle.codec.specs.Field.{last}
use Rattle.codec.proofs.Halves.{halves}
use Rattle.codec.proofs.field.pair_at.Goals as goal

pub returns : goal.returns
returns c =
    halves 1 c.args.s.now c.args.at last _ _ _ (search rules) (c.from.ensures ∙ c.byte_at.ensures) c.after.ensures (c.from-2.ensures ∙ c.byte_at-2.ensures)
