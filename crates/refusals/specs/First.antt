-- How a call refuses: it has a list of refusals, from the top, and each of them a condition. Given is the first of the list whose condition
-- holds. `when r` is the condition of the refusal r. SPEC 20.
use Rattle.std.specs.Prelude.{◌≡◌, ◌⊎◌, ◌↔◌, List, [], ◌∷◌, Option, None, Some}
use Rattle.lists.specs.Member.{In}
use Rattle.node.specs.declared.refusal.Refusal.{Refusal}
use Rattle.model.specs.Model.{Model}
use Rattle.model.specs.Call.{Call}
use Rattle.model.specs.Call as call

-- r is the first of these whose condition holds
abbrev pub First : (Refusal → Type 0) → List Refusal → Refusal → Type 0
First when [] r = ⊥
First when (s ∷ rest) r = ((r ≡ s) × when s) ⊎ ((when s → ⊥) × First when rest r)

-- the condition of none of these holds
abbrev pub NoneHolds : (Refusal → Type 0) → List Refusal → Type 0
NoneHolds when l = (r : Refusal) → In r l → when r → ⊥

-- what is refused, if anything is
pub record Told (when : Refusal → Type 0) (l : List Refusal) (o : Option Refusal) : Type 0 where
  pub first : (r : Refusal) → (o ≡ Some r) ↔ First when l r
  pub none : (o ≡ None) ↔ NoneHolds when l

-- The call x on the store m answers a refusal exactly when it is the first of the list whose condition holds, so none where none holds; and
-- then nothing is changed.
pub record Refuses (when : Refusal → Type 0) (l : List Refusal) (x : Call) (m : Model) : Type 0 where
  pub first : (r : Refusal) → ((call.step x m).answer ≡ call.refused r) ↔ First when l r
  pub unchanged : (r : Refusal) → First when l r → (call.step x m).model ≡ m
