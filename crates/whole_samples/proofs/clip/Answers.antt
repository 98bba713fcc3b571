-- `whole_samples::clip` meets its contract.
use Rattle.std.proofs.Common.{ℤ, ap, ◌∙◌, w32}
use Rattle.std.specs.Int.{int_min, int_max}
use mir.ValLaws.{to_z-of_z}
use Rattle.whole_bus.specs.Sample.{lowest, highest}
use Rattle.whole_bus.proofs.Rounding.{clamp_is}
use Rattle.whole_samples.proofs.clip.Goals as goal

pub returns : goal.returns
returns c =
    to_z-of_z w32 _ (record { sfits = c.clamp.type_inv })
    ∙ c.clamp.ensures.value
    ∙ ap (λ (z : ℤ). int_max lowest (int_min z highest)) (to_z-of_z w32 c.args.x c.ranges.x)
    ∙ clamp_is c.args.x
