-- The two ways through an admission under a budget: below it, and at it; and who counts for the budget (SPEC 9.2).
use Prim.Native.Nat.{ℕ, ◌≤◌, ◌<◌}
use mathlib.Core.Path.{◌≡◌, refl, sym, ap, ◌∙◌}
use mathlib.Core.List.{List}
use Rattle.std.specs.Prelude.{None, Some, Option}
use mathlib.Core.Bool.{Bool, true, false, ◌&&◌, cond}
use lib.ListN.{length}
use borrow.Author.Tests.{le-leb, lt-leb}
use Rattle.node.specs.declared.record.NodeId.{NodeId}
use Rattle.voice.specs.declared.policy.StealPolicy.{StealPolicy}
use Rattle.voice.specs.declared.policy.BudgetScope.TheVariants.{Global, PerGroup}
use Rattle.voice.specs.declared.policy.Candidate.{Candidate}
use Rattle.voice.specs.declared.policy.Admission.{Admission}
use Rattle.voice.specs.declared.policy.Admission.TheVariants as admission
use Rattle.voice.specs.Policy.{Victim, victim, counts, at_budget, decides, admits, nobody, admission_number, reject_number}

-- the answer, and its number
abbrev pub Admitted : Option ℕ → StealPolicy → ℕ → List Candidate → Admission → Type 0
Admitted b p r l a = (a ≡ admits b p r l) × (admission_number a ≡ reject_number b p r l)

admitted : (b : Option ℕ) (p : StealPolicy) (r : ℕ) (l : List Candidate) (a : Admission) → a ≡ admits b p r l → Admitted b p r l a
admitted b p r l a e = (e, ap admission_number e ∙ go (at_budget b (length l)) (victim p r l))
  where
    go : (at : Bool) (v : Victim) → admission_number (decides at v) ≡ cond (at && nobody v) (Some 11) None
    go false v = refl
    go true None = refl
    go true (Some (place, voice)) = refl

module _ (b : Option ℕ) (p : StealPolicy) (r : ℕ) (l : List Candidate) (most : ℕ) (is : b ≡ Some most) where
  pub below_budget : length l < most → Admitted b p r l admission.Admit
  below_budget h =
      admitted b p r l admission.Admit (sym (ap (λ z. admits z p r l) is ∙ ap (λ t. decides t (victim p r l)) (lt-leb most (length l) h)))

  pub at_budget_lem : (v : Victim) → most ≤ length l → victim p r l ≡ v → Admitted b p r l (decides true v)
  at_budget_lem v h e =
      admitted b p r l (decides true v)
      (sym (ap (λ z. admits z p r l) is ∙ ap (λ t. decides t (victim p r l)) (le-leb most (length l) h) ∙ ap (decides true) e))

-- ---- under `Global` a voice of another bus counts, under `PerGroup` it does not
abbrev node : ℕ → NodeId
node n = record { 0 = n }

pub counted :
    (counts Global (node 1) (node 2) ≡ true)
    × (counts PerGroup (node 1) (node 2) ≡ false)
    × (counts PerGroup (node 2) (node 2) ≡ true)
counted = (refl, refl, refl)
