-- Examples of fade lengths (SPEC 10.1) and seeds (SPEC 9.9), as one table over the definitions, proved by one computed
-- check.
use Rattle.std.proofs.Common.{ℕ, Bool, true, ◌&&◌, T, eqb, List, [], ◌∷◌}
use Rattle.bus.specs.Fade.{fade_length}
use Rattle.bus.specs.Noise.{exclusive_or, seed_of}

-- what a definition gives, and what 01 says that it gives
pub record Example : Type 0 where
  pub given : ℕ
  pub said : ℕ

abbrev all_hold : List Example → Bool
all_hold [] = true
all_hold (x ∷ xs) = eqb x.given x.said && all_hold xs

unfoldable pub examples : List Example
unfolding seed_of
examples =
    record { given = fade_length 44100; said = 221 }
    ∷ record { given = fade_length 48000; said = 240 }
    ∷ record { given = fade_length 22050; said = 110 }
    ∷ record { given = fade_length 1; said = 1 }
    ∷ record { given = fade_length 300; said = 2 }
    ∷ record { given = seed_of 0 0; said = 0xDEADBEEF }
    ∷ record { given = seed_of 0 1; said = 0x5B467498 }
    ∷ record { given = seed_of 1 0; said = 0x409AC756 }
    ∷ []

pub examples_hold : T (all_hold examples)
unfolding examples seed_of exclusive_or
examples_hold = tt
