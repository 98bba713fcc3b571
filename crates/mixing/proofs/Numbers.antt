-- 16 is the number of `LentBlock` alone.
use native.Mathlib.Omega.{arith}
use mathlib.Core.Path.{◌≡◌}
use Rattle.node.specs.Refusal.{number_of}
use Rattle.node.specs.declared.refusal.Refusal.{Refusal}
use Rattle.node.specs.declared.refusal.Refusal.TheVariants.{LentBlock}

pub sixteen : (r : Refusal) → number_of r ≡ 16 → r ≡ LentBlock
sixteen r h = grind arith
