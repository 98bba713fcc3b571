-- The place of the first row that passes a test, what a table holds after rows went or came, and what a change makes of each row.
use denote.Ref.{Bor}
use Rattle.std.specs.Prelude.{ℕ, zero, suc, ◌≡◌, List, [], ◌∷◌, Bool, Option, None, Some, ◌<◌, cond, length, take, drop}
use Rattle.words.specs.Rows.{cuts, row_at, fields_put}

-- the place of the first that passes; behind the last where none does
unfoldable pub place_of : {A : Type 0} → (A → Bool) → List A → ℕ
place_of q [] = zero
place_of q (x ∷ l) = cond (q x) zero (suc (place_of q l))

-- the first n of the rows are these, and n is their number: so a count that a host reads is pinned, too
pub record Holds {A : Type 0} (rows : List A) (n : ℕ) (l : List A) : Type 0 where
  pub is : take n rows ≡ l
  pub many : n ≡ length l

-- what the calls of a test return, of words and the number of a row, is what q says of the words of that row
abbrev pub Tells : ℕ → (Bor (List ℕ) → ℕ → Bool → Type 0) → (List ℕ → Bool) → Type 0
Tells w post q = (t : Bor (List ℕ)) (i : ℕ) (b : Bool) → post t i b → b ≡ q (row_at w i t.now)

-- row i with the words of an answer stored from word k on; with none the words stay
abbrev pub stored : {W : Type 0} → ℕ → ℕ → ℕ → (W → List ℕ) → Option W → List ℕ → List ℕ
stored w i k items None c = c
stored w i k items (Some ws) c = fields_put w i k (items ws) c

-- what one call of a change makes of row i: it was given words in which that row is as it was, and what it returned is stored into the row, from word k on
abbrev pub RowChanged : {W : Type 0} → ℕ → ℕ → ℕ → (W → List ℕ) → (Bor (List ℕ) → ℕ → Option W → Type 0) → List ℕ → List ℕ → Type 0
RowChanged w k i items post old new =
    (t : Bor (List ℕ)) × (r : Option _) × post t i r × (length t.now ≡ length old) × (row_at w i t.now ≡ row_at w i old) × (row_at w i new ≡ row_at w i (stored w i k items r t.now))

-- the first n rows are changed by a call each, and the rows behind them stay. Of the words and not of what they stand for: a clause cannot speak of
-- every type of rows; `changed_rows` of proofs/Changes does
pub record Changed {W : Type 0} (w k n : ℕ) (items : W → List ℕ) (post : Bor (List ℕ) → ℕ → Option W → Type 0) (old new : List ℕ) : Type 0 where
  pub long : length new ≡ length old
  pub each : (i : ℕ) → i < n → RowChanged w k i items post old new
  pub rest : drop n (cuts w new) ≡ drop n (cuts w old)
