-- A pattern past that of infinity is a NaN's, and any other is none's.
use Rattle.std.proofs.Common.{◌∙◌}
use Rattle.std.specs.Float.{binary32}
use Rattle.codec.proofs.Nan.{nan32, made, no_nan_bits}
use Rattle.codec.proofs.field.float.Goals as goal

pub returns-then-bits-gt2139095040 : goal.returns-then-bits-gt2139095040
returns-then-bits-gt2139095040 c = nan32 ∙ made binary32 c.args.bits c.if-bits-gt2139095040.true

pub float_from_bits-result : goal.float_from_bits-result
float_from_bits-result c = no_nan_bits binary32 c.args.bits c.if-bits-gt2139095040.false
