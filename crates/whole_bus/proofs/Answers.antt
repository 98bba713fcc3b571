-- Which refusal the tests give, as they came out.
use mathlib.Core.Path.{◌≡◌, ap}
use mathlib.Core.Bool.{Bool, false}
use Rattle.std.specs.Prelude.{Some}
use Rattle.node.specs.declared.refusal.Refusal.TheVariants.{LentBlock}
use Rattle.whole_bus.specs.Block.{refusal_of}

-- the sizes do not fit
pub unfit : (fits in_range : Bool) → fits ≡ false → refusal_of fits in_range ≡ Some LentBlock
unfit fits in_range e = ap (λ (b : Bool). refusal_of b in_range) e
