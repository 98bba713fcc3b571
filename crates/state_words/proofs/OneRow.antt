-- The words of the state are a table of one row.
use Prim.Native.Nat.{ℕ}
use native.Mathlib.Omega.{arith}
use mathlib.Core.Path.{◌≡◌, ap, ◌∙◌}
use mathlib.Core.List.{List, []}
use lib.ListN.{length}
use lib.Seq.{take_all}
use Rattle.std.specs.Prelude.{◌/◌, get_or}
use Rattle.words.specs.Rows.{rows, rows_from, row_at}

pub one_row : (c : List ℕ) → length c ≡ 32 → row_at 32 0 c ≡ c
unfolding rows
one_row c h =
    let once : length c / 32 ≡ 1 = ap (λ n. n / 32) h in
    ap (λ n. get_or (rows_from 32 (λ (ws : List ℕ). ws) n c) 0 []) once ∙ take_all 32 c (omega arith)
