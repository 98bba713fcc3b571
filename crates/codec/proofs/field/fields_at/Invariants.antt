-- What is filled, and what is still to come, is the whole.
use Rattle.std.proofs.Common.{length, ◌≡◌}
use Rattle.codec.specs.Field.{fields}
use Rattle.codec.proofs.Filling.{partly}
use Rattle.codec.proofs.field.fields_at.Given as goal

abbrev pub invariant-loop-x : goal.invariant-loop-x
invariant-loop-x g l =
    let f = g.T.Field.value in
    let n = length l.initial.out in
    (length l.out ≡ n) × (partly f n l.s l.out l.from l.x-index ≡ fields f n l.s l.at)
