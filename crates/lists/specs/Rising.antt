-- Rows that stand by rising number, as nodes and voices do by their ids; so no two have the same one.
use Rattle.std.specs.Prelude.{ℕ, suc, ◌≤◌, List, [], ◌∷◌}

-- each number is at least `least`, and above those before it
abbrev pub RisesFrom : {A : Type 0} → (A → ℕ) → ℕ → List A → Type 0
RisesFrom f least [] = Unit {0}
RisesFrom f least (x ∷ l) = (least ≤ f x) × RisesFrom f (suc (f x)) l
