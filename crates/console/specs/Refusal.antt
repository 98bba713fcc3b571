-- The numbers of the keyboards (SPEC 17, 20).
use Rattle.std.specs.Prelude.{ℕ}
use Rattle.console.specs.declared.refusal.KeyboardRefusal.{KeyboardRefusal}
use Rattle.console.specs.declared.refusal.KeyboardRefusal.TheVariants.{OutOfRange, Full}

abbrev pub number_of : KeyboardRefusal → ℕ
number_of OutOfRange = 24
number_of Full = 25
