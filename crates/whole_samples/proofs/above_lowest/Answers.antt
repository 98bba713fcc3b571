-- `whole_samples::above_lowest` meets its contract.
use Rattle.std.proofs.Common.{◌≡◌, ℕ, ◌+◌, ◌%◌, ltb, ap, ◌∙◌}
use mir.Syntax.{w32}
use mir.Val.{of_z}
use mir.ValLaws.{to_z-of_z}
use Rattle.whole_bus.proofs.Ranges.{above_is, above_tells}
use Rattle.whole_samples.proofs.above_lowest.Goals as goal

pub returns : goal.returns
returns c =
    let x = c.args.x in
    let bits : c.cast_unsigned.result ≡ of_z w32 x = c.cast_unsigned.ensures ∙ ap (of_z w32) (to_z-of_z w32 x c.ranges.x) in
    let value = ap (λ (n : ℕ). (n + 8388608) % 4294967296) bits ∙ above_is x c.ranges.x in
    record { value = value; tells = ap (λ (r : ℕ). ltb r 16777216) value ∙ above_tells x c.ranges.x }
