-- A table is an array of rows and a count: its rows are the first `count`, and a count above the capacity is the capacity.
-- The laws of loops that walk, extend and close such a table, for any row type and capacity; `i + 1` as the code says it.
-- What the toolchain has already (`take-suc-set`, `take-set-le`, `get_or-take`, `drop-cons`, `set_at` of `lib.Seq`) is cited.
use Rattle.std.specs.Prelude.{ℕ, min, List, [], ◌∷◌, Bool, cond, take}

-- the rows of a table
abbrev pub rows_of : {A : Type 0} → ℕ → ℕ → List A → List A
rows_of capacity count rows = take (min count capacity) rows

-- A lookup: what the first row that passes says, or r where none does. Its two laws are those of a loop that walks the table,
-- whatever its length.
abbrev pub lookup : {A R : Type 0} → (A → Bool) → (A → R) → R → List A → R
lookup t f r [] = r
lookup t f r (x ∷ l) = cond (t x) (f x) (lookup t f r l)
