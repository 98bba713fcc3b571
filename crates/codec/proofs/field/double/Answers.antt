-- A pattern past that of infinity is a NaN's, and any other is none's.
use Rattle.std.proofs.Common.{◌∙◌}
use Rattle.std.specs.Float.{binary64}
use Rattle.codec.proofs.Nan.{nan64, made, no_nan_bits}
use Rattle.codec.proofs.field.double.Goals as goal

pub returns-then-bits-gt9218868437227405312 : goal.returns-then-bits-gt9218868437227405312
returns-then-bits-gt9218868437227405312 c = nan64 ∙ made binary64 c.args.bits c.if-bits-gt9218868437227405312.true

pub float_from_bits-result : goal.float_from_bits-result
float_from_bits-result c = no_nan_bits binary64 c.args.bits c.if-bits-gt9218868437227405312.false
