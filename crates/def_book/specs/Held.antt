-- What an array of a fixed number of rows holds of a list.
use Rattle.std.specs.Prelude.{ℕ, zero, suc, List, [], ◌∷◌}

-- the first `room` of a list, and d where the list ends before
unfoldable pub held : {A : Type 0} → ℕ → A → List A → List A
held zero d l = []
held (suc room) d [] = d ∷ held room d []
held (suc room) d (x ∷ l) = x ∷ held room d l
