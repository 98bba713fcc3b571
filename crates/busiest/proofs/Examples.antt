-- Closed examples of the definitions (SPEC 19), each with the wrong rule that it refuses.
use mathlib.Core.Path.{◌≡◌, refl}
use mathlib.Core.List.{[], ◌∷◌}
use Rattle.std.specs.Prelude.{None, Some}
use Rattle.busiest.specs.Stretch.{refused, gives, busiest}

-- samples 0 and 4 lie in 5 consecutive samples and not in 4: a width that counts its end would take 4
pub width : (busiest 5 (0 ∷ 4 ∷ []) ≡ gives 2 (Some 0)) × (busiest 4 (0 ∷ 4 ∷ []) ≡ gives 1 (Some 0))
width = (refl, refl)

-- two stretches hold two records: the earlier one counts
pub earliest : busiest 3 (1 ∷ 2 ∷ 10 ∷ 12 ∷ []) ≡ gives 2 (Some 1)
earliest = refl

-- a later stretch that holds more counts, and its first record is not the first of the run
pub most : busiest 3 (1 ∷ 2 ∷ 10 ∷ 11 ∷ 12 ∷ []) ≡ gives 3 (Some 10)
most = refl

-- "Equal samples count separately."
pub equal_samples : busiest 1 (7 ∷ 7 ∷ 7 ∷ 8 ∷ []) ≡ gives 3 (Some 7)
equal_samples = refl

-- "An empty run gives 0 and no sample."
pub empty : busiest 1 [] ≡ gives 0 None
empty = refl

-- 22 is checked first, of an empty run and of one that falls too
pub no_width : (busiest 0 [] ≡ refused 22) × (busiest 0 (2 ∷ 1 ∷ []) ≡ refused 22)
no_width = (refl, refl)

-- samples that fall at the last pair, behind the busiest stretch
pub falls_late : busiest 9 (0 ∷ 1 ∷ 2 ∷ 100 ∷ 99 ∷ []) ≡ refused 23
falls_late = refl

-- nothing wraps: of the first and the last sample of 64 bits the widest stretch holds one
pub widest : busiest 18446744073709551615 (0 ∷ 18446744073709551615 ∷ []) ≡ gives 1 (Some 0)
widest = refl

pub ends : busiest 18446744073709551615 (1 ∷ 18446744073709551614 ∷ 18446744073709551615 ∷ []) ≡ gives 3 (Some 1)
ends = refl
