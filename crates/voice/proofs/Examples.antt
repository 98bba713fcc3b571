-- Of levels 2, 1, 1 the third voice goes (SPEC 9.4); and the other rules of the walk, in the same table.
use Rattle.std.specs.Prelude.{Option, Float, Some, None}
use Prim.Native.Nat.{ℕ, suc}
use mathlib.Core.Path.{◌≡◌, refl}
use mathlib.Core.List.{List, [], ◌∷◌}
use mathlib.Core.Bool.{Bool, true, false, ◌&&◌}
use lib.Dec.{eqb}
use lib.IntN.{pos}
use lib.Ieee.{nan, inf, fin, lt, eq, le}
use Rattle.voice.specs.declared.policy.StealPolicy.{StealPolicy}
use Rattle.voice.specs.declared.policy.StealPolicy.TheVariants as policy
use Rattle.voice.specs.declared.policy.Candidate.{Candidate}
use Rattle.voice.specs.Policy.{Victim, victim}

-- a policy, levels in order of admission, and the victim, counted from 1; 0 for nobody
pub record Row : Type 0 where
  pub rule : StealPolicy
  pub levels : List (Option Float)
  pub voice : ℕ

abbrev one : Option Float
one = Some (fin false 1 (pos 0))

abbrev two : Option Float
two = Some (fin false 1 (pos 1))

abbrev plus_zero : Option Float
plus_zero = Some (fin false 0 (pos 0))

abbrev minus_zero : Option Float
minus_zero = Some (fin true 0 (pos 0))

abbrev pub table : List Row
table =
    record { rule = policy.Quietest; levels = two ∷ one ∷ one ∷ []; voice = 3 } ∷
    record { rule = policy.Quietest; levels = one ∷ one ∷ two ∷ []; voice = 2 } ∷
    record { rule = policy.Quietest; levels = Some nan ∷ one ∷ []; voice = 1 } ∷
    record { rule = policy.Quietest; levels = Some nan ∷ Some nan ∷ []; voice = 1 } ∷
    record { rule = policy.Quietest; levels = two ∷ Some nan ∷ one ∷ []; voice = 3 } ∷
    record { rule = policy.Quietest; levels = one ∷ Some nan ∷ []; voice = 1 } ∷
    record { rule = policy.Quietest; levels = one ∷ None ∷ one ∷ None ∷ []; voice = 3 } ∷
    record { rule = policy.Quietest; levels = None ∷ two ∷ []; voice = 2 } ∷
    record { rule = policy.Quietest; levels = None ∷ None ∷ []; voice = 1 } ∷
    record { rule = policy.Quietest; levels = plus_zero ∷ minus_zero ∷ []; voice = 2 } ∷
    record { rule = policy.Quietest; levels = minus_zero ∷ plus_zero ∷ []; voice = 2 } ∷
    record { rule = policy.Quietest; levels = Some (inf false) ∷ Some (inf true) ∷ []; voice = 2 } ∷
    record { rule = policy.Quietest; levels = []; voice = 0 } ∷
    record { rule = policy.Oldest; levels = two ∷ one ∷ one ∷ []; voice = 1 } ∷
    record { rule = policy.Newest; levels = two ∷ one ∷ one ∷ []; voice = 3 } ∷
    record { rule = policy.Reject; levels = two ∷ one ∷ one ∷ []; voice = 0 } ∷
    []

-- the candidates with these levels; their voices are counted from 1
abbrev pub numbered : ℕ → List (Option Float) → List Candidate
numbered v [] = []
numbered v (x ∷ l) = record { voice = record { 0 = v }; level = x; rank = 0 } ∷ numbered (suc v) l

-- the victim stands at its place
abbrev pub goes : Victim → ℕ → Bool
goes None n = eqb n 0
goes (Some (place, voice)) n = eqb voice.0 n && eqb (suc place) n

abbrev pub right : List Row → Bool
right [] = true
right (x ∷ l) = goes (victim x.rule 0 (numbered 1 x.levels)) x.voice && right l

pub examples : right table ≡ true
unfolding lt eq le
examples = refl
