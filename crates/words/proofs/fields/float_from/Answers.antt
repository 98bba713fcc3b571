use Rattle.words.proofs.Floats.{read_nan, no_nan_bits}
use Rattle.words.proofs.fields.float_from.Goals as goal

pub returns-then-x-gt2139095040 : goal.returns-then-x-gt2139095040
returns-then-x-gt2139095040 c = read_nan c.args.x c.if-x-gt2139095040.true

pub float_from_bits-result : goal.float_from_bits-result
float_from_bits-result c = no_nan_bits c.args.x c.if-x-gt2139095040.false
