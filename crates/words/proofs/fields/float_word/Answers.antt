use mathlib.Core.Path.{sym, ◌∙◌, subst}
use lib.Dec.{T}
use lib.Ieee.{binary32}
use lib.Ieee.Bits.{of_bits-to_bits}
use Rattle.words.proofs.Floats.{stored_nan}
use Rattle.words.proofs.fields.float_word.Goals as goal

pub returns-then-is_nan : goal.returns-then-is_nan
returns-then-is_nan c = stored_nan c.args.x (sym c.is_nan.ensures.value ∙ c.if-is_nan.true)

-- that x is a float of this width is a fact of the parameter
pub returns-else-is_nan : goal.returns-else-is_nan
returns-else-is_nan c = of_bits-to_bits binary32 c.args.x (subst T (sym c.well_formed.0.1) tt)
