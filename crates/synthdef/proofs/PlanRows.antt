-- The rows of a done plan's steps.
use Prim.Native.Nat.{ℕ, zero, suc, ◌+◌, ◌-◌, ◌≤◌, ◌<◌}
use native.Mathlib.Omega.{arith}
use mathlib.Core.Path.{◌≡◌, refl}
use mathlib.Core.List.{List, [], ◌∷◌, ◌++◌}
use mathlib.Core.Bool.{false}
use lib.ListN.{length, get_or, replicate}
use Rattle.synthdef.specs.Tables.{no_node}
use Rattle.synthdef.specs.Plan.{step, step_of, steps_from, full_steps}
use Rattle.synthdef.specs.declared.def.DefEdge.{DefEdge}
use Rattle.synthdef.specs.declared.def.DefNode.{DefNode}
use Rattle.synthdef.specs.declared.plan.DoneStep.{DoneStep}

-- past a list stands what is read there
padded : (l : List DoneStep) (m i : ℕ) (d : DoneStep) → get_or l i d ≡ get_or (l ++ replicate m d) i d
padded [] zero i d = refl
padded [] (suc m) zero d = refl
padded [] (suc m) (suc i) d = padded [] m i d
padded (x ∷ l) m zero d = refl
padded (x ∷ l) m (suc i) d = padded l m i d

pub full_row : (l : List DoneStep) (i : ℕ) → get_or l i (step false []) ≡ get_or (full_steps l) i (step false [])
full_row l i = padded l (24 - length l) i (step false [])

-- the step of the node in row i
pub step_row : (es : List DefEdge) (ns : List DefNode) (k i : ℕ) → i < length ns → get_or (steps_from es ns k) i (step false []) ≡ step_of es (get_or ns i no_node) (k + i)
step_row es [] k i h = absurd (omega arith)
step_row es (n ∷ ns) k zero h = let same : k + 0 ≡ k = omega arith in rw same refl
step_row es (n ∷ ns) k (suc i) h = let same : k + suc i ≡ suc k + i = omega arith in rw same (step_row es ns (suc k) i (omega arith))

-- of no node there is no step
pub step_past : (es : List DefEdge) (ns : List DefNode) (k i : ℕ) → length ns ≤ i → get_or (steps_from es ns k) i (step false []) ≡ step false []
step_past es [] k i h = refl
step_past es (n ∷ ns) k zero h = absurd (omega arith)
step_past es (n ∷ ns) k (suc i) h = step_past es ns (suc k) i (omega arith)
