use native.Mathlib.Omega.{arith}
use mathlib.Core.Path.{refl}
use Rattle.call_page.proofs.Puts.{then, added}
use Rattle.call_page.proofs.put.put_field.Goals as goal

pub returns : goal.returns
returns c = then c.put_number.ensures (added 1 _ _ _ _ refl c.add.ensures (omega arith))
