-- Rows that stand one after the other in a script: each is read at its position, and gives the position of the next.
use Rattle.std.specs.Prelude.{ℕ, zero, suc, List, [], ◌∷◌}

unfoldable pub rows_at : {A : Type 0} → (List ℕ → ℕ → A) → (List ℕ → ℕ → ℕ) → ℕ → List ℕ → ℕ → List A
rows_at read next zero s at = []
rows_at read next (suc n) s at = read s at ∷ rows_at read next n s (next s at)

-- the position after n of them
unfoldable pub rows_end : (List ℕ → ℕ → ℕ) → ℕ → List ℕ → ℕ → ℕ
rows_end next zero s at = at
rows_end next (suc n) s at = rows_end next n s (next s at)
