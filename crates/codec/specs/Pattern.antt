-- The pattern of a float as it is written.
use Rattle.std.specs.Prelude.{ℕ, ◌+◌, ◌*◌, ◌/◌, cond, Float}
use Rattle.std.specs.Float.{Format}
use Rattle.std.specs.Float.Ieee.{ones, hid, is_nan, to_bits}

-- every NaN has the pattern of the quiet one: exponent all ones, and the first digit
abbrev pub nan_pattern : Format → ℕ
nan_pattern f = ones f * hid f + hid f / 2

abbrev pub pattern_of : Format → Float → ℕ
pattern_of f x = cond (is_nan x) (nan_pattern f) (to_bits f x)
