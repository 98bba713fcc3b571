-- How many rows pass a test.
use Rattle.std.specs.Prelude.{ℕ, suc, List, [], ◌∷◌, Bool, true, false}

abbrev pub more : Bool → ℕ → ℕ
more true n = suc n
more false n = n

-- how many pass
abbrev pub count : {A : Type 0} → (A → Bool) → List A → ℕ
count q [] = 0
count q (x ∷ l) = more (q x) (count q l)
