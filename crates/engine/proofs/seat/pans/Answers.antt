use mathlib.Core.Path.{refl}
use Rattle.engine.proofs.seat.pans.Goals as goal

pub returns : goal.returns
unfolding lib.Ieee.eq lib.Ieee.ne lib.Ieee.of_bits
returns c = refl
