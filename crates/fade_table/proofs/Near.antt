-- Each entry is the nearest whole number: one test, computed over the table.
use Prim.Native.Nat.{ℕ, ◌+◌, ◌*◌}
use mathlib.Core.Bool.{Bool, ◌&&◌}
use mathlib.Core.List.{List}
use lib.Dec.{T, ltb, ltb→lt}
use lib.Ieee.Fits.{and_l, and_r}
use Rattle.fade_table.specs.Table.{S, entries, entry_of}
use Rattle.fade_table.specs.Nearest.{Nearest, above, below, series}
use Rattle.fade_table.proofs.Computed.{up_to, up_to_at}

abbrev not_low : List ℕ → ℕ → Bool
not_low t k = let r = above k in ltb (S * (r.den + r.num)) ((2 * entry_of t k + 1) * r.den)

abbrev not_high : List ℕ → ℕ → Bool
not_high t k = let r = below k in ltb (2 * entry_of t k * r.den) (S * (r.den + r.num) + r.den)

passes : List ℕ → Bool
passes t = up_to 120 (not_low t) && up_to 120 (not_high t)

nearest : (t : List ℕ) → T (passes t) → Nearest t
unfolding passes
nearest t p =
    record {
      not_low = λ k h. ltb→lt _ _ (up_to_at 120 (not_low t) (and_l (up_to 120 (not_low t)) _ p) k h);
      not_high = λ k h. ltb→lt _ _ (up_to_at 120 (not_high t) (and_r (up_to 120 (not_low t)) _ p) k h);
    }

pub entries_nearest : Nearest entries
unfolding entries passes series
entries_nearest = nearest entries tt
