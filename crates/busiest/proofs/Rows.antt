-- The newest records as an array, row by row, and what its first rows are.
use Rattle.std.specs.Prelude.{unwrap_or}
use Prim.Native.Nat.{ℕ, zero, suc, ◌-◌, ◌≤◌, min}
use native.Mathlib.Omega.{arith}
use mathlib.Core.Path.{◌≡◌, refl, ap, ◌∙◌}
use mathlib.Core.List.{List, [], ◌∷◌, ◌++◌}
use lib.ListN.{length, take, get_or, replicate}
use lib.Seq.{take_all, take-append-le}
use Rattle.lists.specs.Table.{rows_of}
use Rattle.voice.specs.declared.steals.StealRecord.{StealRecord}
use Rattle.voice.specs.Steals.{found_at}
use Rattle.busiest.specs.Newest.{no_record, newest_of}

-- the run that is lent is the list of the newest records
pub newest_run : (l : List StealRecord) → take (newest_of l).count (newest_of l).rows ≡ l
newest_run l =
    let whole : length l ≤ length l = omega arith in
    take-append-le (length l) l (replicate (64 - length l) no_record) whole ∙ take_all (length l) l whole

-- as a table of 64 rows and a count
pub newest_rows : (l : List StealRecord) → length l ≤ 64 → rows_of 64 (newest_of l).count (newest_of l).rows ≡ l
newest_rows l h = let size : min (length l) 64 ≡ length l = omega arith in ap (λ k. take k (newest_of l).rows) size ∙ newest_run l

-- what is read at a place, with the default that stands behind the records
pub found_row : (l : List StealRecord) (m i : ℕ) (d : StealRecord) → unwrap_or (found_at i l) d ≡ get_or (l ++ replicate m d) i d
found_row [] zero i d = refl
found_row [] (suc m) zero d = refl
found_row [] (suc m) (suc i) d = found_row [] m i d
found_row (r ∷ l) m zero d = refl
found_row (r ∷ l) m (suc i) d = found_row l m i d
