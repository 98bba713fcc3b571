-- Which sample rates are accepted (SPEC 3). Definitions only.
use Rattle.std.specs.Prelude.{ℕ, ◌*◌, ◌/◌, ◌%◌, true, false, cond, ◌&&◌, ◌==◌, nat_le, Float}
use Rattle.std.specs.Float.{nan, inf, fin}
use Rattle.std.specs.Float.Ieee.{up, down}
use Rattle.node.specs.Refusal.{Said, refused, gives, number_of}
use Rattle.node.specs.declared.refusal.Refusal.TheVariants.{SampleRate}

-- in hertz
abbrev pub highest_rate : ℕ
highest_rate = 384000

-- the number a / b, where it is a whole number from 1 to the highest rate
abbrev pub whole_rate : ℕ → ℕ → Said ℕ
whole_rate a b = cond (a % b == 0 && (nat_le 1 (a / b) && nat_le (a / b) highest_rate)) (gives (a / b)) (refused (number_of SampleRate))

-- What is not a whole number of hertz in that range is refused. A finite value is m * 2 ^ e, which is m * up e / down
-- e; the flag is its sign.
unfoldable pub rate_of : Float → Said ℕ
rate_of nan = refused (number_of SampleRate)
rate_of (inf s) = refused (number_of SampleRate)
rate_of (fin true m e) = refused (number_of SampleRate)
rate_of (fin false m e) = whole_rate (m * up e) (down e)
