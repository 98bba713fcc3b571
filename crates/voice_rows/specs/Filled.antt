-- A run of n records in w words each, stored from a place on.
use Rattle.std.specs.Prelude.{ℕ, ◌+◌, ◌*◌, ◌≤◌, ◌<◌, ◌≡◌, ◌⊎◌, List, length, get_or}
use Rattle.voice_rows.specs.Rows.{each}

pub record Filled {A : Type 0} (base w n : ℕ) (at : List ℕ → ℕ → A) (old new : List ℕ) (xs : List A) : Type 0 where
  pub long : length new ≡ length old
  pub is : each (λ k. at new (base + k * w)) 0 n ≡ xs
  pub out : (j : ℕ) → (j < base) ⊎ (base + n * w ≤ j) → get_or new j 0 ≡ get_or old j 0

-- a record that is read from w words: from the same words it is the same
abbrev pub Local : {A : Type 0} → ℕ → (List ℕ → ℕ → A) → Type 0
Local w at = (c e : List ℕ) (a b : ℕ) → ((j : ℕ) → j < w → get_or c (a + j) 0 ≡ get_or e (b + j) 0) → at c a ≡ at e b
