-- Worked examples over the definitions (SPEC 11.1), in a table that one computed check proves.
use Prim.Native.Nat.{ℕ}
use mathlib.Core.Path.{◌≡◌, refl}
use mathlib.Core.List.{List, [], ◌∷◌, map}
use mathlib.Core.Bool.{true, false}
use lib.IntN.{pos}
use lib.Ieee.{Float, nan, inf, fin, binary32, binary64, add, mul, div, of_int, of_bits, to_bits}
use Rattle.level.specs.Root.{root_of, sqrt}
use Rattle.level.specs.Narrow.{narrow}
use Rattle.level.specs.Level.{squares, level_of}

-- a level of samples; a root and a narrowing from bits to bits
pub data Row : Type 0 where
  level : List Float → Float → Row
  root : ℕ → ℕ → Row
  narrowed : ℕ → ℕ → Row

-- the row as the definitions give it
unfoldable pub given : Row → Row
unfolding level_of sqrt narrow of_bits to_bits
given (level xs y) = level xs (level_of xs)
given (root x y) = root x (to_bits binary64 (sqrt (of_bits binary64 x)))
given (narrowed x y) = narrowed x (to_bits binary32 (narrow (of_bits binary64 x)))

unfoldable pub table : List Row
table =
    -- ● "Level of 1, 7: 5"
    level (fin false 1 (pos 0) ∷ fin false 7 (pos 0) ∷ []) (fin false 5 (pos 0))
    ∷ level (fin true 7 (pos 0) ∷ fin false 1 (pos 0) ∷ []) (fin false 5 (pos 0))
    ∷ level [] nan
    ∷ level (fin false 1 (pos 0) ∷ inf true ∷ []) (inf false)
    ∷ level (inf true ∷ nan ∷ []) nan
    -- 4, 2, the smallest and the largest value, -0, below 0
    ∷ root 0x4010000000000000 0x4000000000000000
    ∷ root 0x4000000000000000 0x3FF6A09E667F3BCD
    ∷ root 1 0x1E60000000000000
    ∷ root 0x7FEFFFFFFFFFFFFF 0x5FEFFFFFFFFFFFFF
    ∷ root 0x8000000000000000 0x8000000000000000
    ∷ root 0x8000000000000001 0x7FF8000000000000
    -- a tie to the even one below and above, a carry into the exponent, the largest value, and halfway past it
    ∷ narrowed 0x3FF0000010000000 0x3F800000
    ∷ narrowed 0x3FF0000030000000 0x3F800002
    ∷ narrowed 0xBFFFFFFFF0000000 0xC0000000
    ∷ narrowed 0x47EFFFFFEFFFFFFF 0x7F7FFFFF
    ∷ narrowed 0x47EFFFFFF0000000 0x7F800000
    -- the smallest value, half of it, just over half of it
    ∷ narrowed 0x36A0000000000000 1
    ∷ narrowed 0x3690000000000000 0
    ∷ narrowed 0x3690000000000001 1
    ∷ []

pub right : map given table ≡ table
unfolding given table level_of squares root_of sqrt narrow add mul div of_int of_bits to_bits
right = refl
