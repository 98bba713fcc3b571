-- A table in words that the caller lends: row i is the w words from i * w on, and `of` says what the words of a row stand for.
-- `rows w of c` is the list of all rows that c has room for, so a store to a row is a `set` of that list, a read a `get_or`, and
-- the first n rows are `take n`: whatever is known of lists of rows (crate lists) serves as it is.
use Rattle.std.specs.Prelude.{ℕ, zero, suc, ◌+◌, ◌-◌, ◌*◌, ◌/◌, ◌≤◌, ◌⊎◌, List, [], ◌∷◌, cond, ◌&&◌, eqb, leb, ltb, min, length, take, drop, get_or, set}
use Rattle.std.proofs.lemmas.List.Edits.{sets}

-- the words of row i
abbrev pub cut : ℕ → ℕ → List ℕ → List ℕ
cut w i c = take w (drop (i * w) c)

abbrev pub rows_from : {A : Type 0} → ℕ → (List ℕ → A) → ℕ → List ℕ → List A
rows_from w of zero c = []
rows_from w of (suc n) c = of (take w c) ∷ rows_from w of n (drop w c)

-- the rows that c has room for
unfoldable pub rows : {A : Type 0} → ℕ → (List ℕ → A) → List ℕ → List A
rows w of c = rows_from w of (length c / w) c

-- the words of each row
abbrev pub cuts : ℕ → List ℕ → List (List ℕ)
cuts w c = rows w (λ ws. ws) c

-- the words of row i; past the end there are none
abbrev pub row_at : ℕ → ℕ → List ℕ → List ℕ
row_at w i c = get_or (cuts w c) i []

-- row i has the words ws, if there is room for it and they are as many as a row has
unfoldable pub row_put : ℕ → ℕ → List ℕ → List ℕ → List ℕ
row_put w i ws c = cond (ltb i (length c / w) && eqb (length ws) w) (sets c (i * w) ws) c

-- how many rows a count stands for: a count above the room is the room
abbrev pub rows_counted : ℕ → ℕ → List ℕ → ℕ
rows_counted w n c = min n (length c / w)

-- and how many with the words ws behind them: one more, if they are as many as a row has and there is room
abbrev pub rows_appended : ℕ → ℕ → List ℕ → List ℕ → ℕ
rows_appended w n ws c = cond (eqb (length ws) w) (rows_counted w (n + 1) c) (rows_counted w n c)

-- word k of row i is x, if there is such a word
unfoldable pub word_put : ℕ → ℕ → ℕ → ℕ → List ℕ → List ℕ
word_put w i k x c = cond (ltb i (length c / w) && ltb k w) (set c (i * w + k) x) c

-- row `to` is what row `from` is, if there is room for both
unfoldable pub row_moved : ℕ → ℕ → ℕ → List ℕ → List ℕ
row_moved w from to c = cond (ltb from (length c / w) && ltb to (length c / w)) (sets c (to * w) (cut w from c)) c

-- the k rows from p on move up by one, the last one first: row p stays as it is, for the caller to store another
unfoldable pub moved_up : ℕ → ℕ → ℕ → List ℕ → List ℕ
moved_up zero w p c = c
moved_up (suc k) w p c = moved_up k w p (row_moved w (p + k) (suc (p + k)) c)

-- room made at place p among the first n rows, if there is room for one more
unfoldable pub opened : ℕ → ℕ → ℕ → List ℕ → List ℕ
opened w n p c = cond (ltb n (length c / w)) (moved_up (n - p) w p c) c

-- the n words from `from` on can be moved to `to` word by word, the first one first
abbrev pub Apart : ℕ → ℕ → ℕ → Type 0
Apart from to n = (to ≤ from) ⊎ (from + n ≤ to)

-- the words ws stored from word k of row i on, if they end within the row
unfoldable pub fields_put : ℕ → ℕ → ℕ → List ℕ → List ℕ → List ℕ
fields_put w i k ws c = cond (ltb k w && leb (length ws) (w - k) && ltb i (length c / w)) (sets c (i * w + k) ws) c
