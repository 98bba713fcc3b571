-- The first row of a list that has a property.
use Rattle.std.specs.Prelude.{◌≡◌, List, ◌∷◌, ◌++◌, Option, Some, None}
use Rattle.lists.specs.Member.{In}

-- o is the first row with P, or none where no row has it
abbrev pub First : {A : Type 0} → (A → Type 0) → List A → Option A → Type 0
First {A} P l None = (x : A) → In x l → P x → ⊥
First {A} P l (Some x) = (before after : List A) × (l ≡ before ++ (x ∷ after)) × P x × ((y : A) → In y before → P y → ⊥)
