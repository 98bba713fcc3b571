-- The numbers of the seal (SPEC 18, 20): sealing is not accepted; a call is closed.
use Rattle.std.specs.Prelude.{ℕ}
use Rattle.sealed.specs.declared.refusal.SealRefusal.{SealRefusal}
use Rattle.sealed.specs.declared.refusal.SealRefusal.TheVariants.{NotAccepted, Closed}

abbrev pub number_of : SealRefusal → ℕ
number_of NotAccepted = 27
number_of Closed = 28
