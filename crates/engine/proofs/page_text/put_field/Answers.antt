use Rattle.std.proofs.Common.{arith}
use Rattle.engine.proofs.Texts.{added, then, long}
use Rattle.engine.proofs.page_text.put_field.Goals as goal

pub add-requires : goal.add-requires
add-requires c = omega (arith, long c.put_number.ensures, c.requires)

pub returns : goal.returns
returns c = then c.put_number.ensures (added 1 c.add.ensures (omega arith))
