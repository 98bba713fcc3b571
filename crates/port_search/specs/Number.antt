-- A port as a number: no port is 64, which no node has.
use Rattle.std.specs.Prelude.{ℕ, Option, Some, None}

abbrev pub number_of : Option ℕ → ℕ
number_of (Some p) = p
number_of None = 64
