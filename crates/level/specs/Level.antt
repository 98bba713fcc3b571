-- The level of a block of samples (SPEC 11.1). Definitions only. A binary32 sample is a binary64 value as it stands,
-- since one type serves both formats; and every NaN is the one value `nan` (SPEC 1).
use Rattle.std.specs.Prelude.{List, [], ◌∷◌, false, pos, length, Float}
use Rattle.std.specs.Float.{fin, binary64}
use Rattle.std.specs.Float.Ieee.{add, mul, div, of_int}
use Rattle.level.specs.Root.{sqrt}
use Rattle.level.specs.Narrow.{narrow}

-- +0
abbrev pub plus_zero : Float
plus_zero = fin false 0 (pos 0)

-- a and the squares of the samples, in order, each product and each sum rounded to binary64
unfoldable pub squares : Float → List Float → Float
squares a [] = a
squares a (x ∷ xs) = squares (add binary64 a (mul binary64 x x)) xs

-- The count is the nearest binary64 value where it is not exact. Of no samples the level is 0 / 0, which is `nan`.
unfoldable pub level_of : List Float → Float
unfolding squares
level_of xs = narrow (sqrt (div binary64 (squares plus_zero xs) (of_int binary64 (pos (length xs)))))
