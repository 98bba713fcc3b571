-- Policies (SPEC 9.3, 9.4), apart from the definitions that decide them: who is asked is told by a comparison with
-- every candidate, and who of them goes by the policy's own word.
use Rattle.std.specs.Prelude.{ℕ, ◌≡◌, ◌<◌, ◌≤◌, ◌⊎◌, ◌↔◌, List, [], ◌∷◌, ◌++◌, Bool, ◌&&◌, leb, length, filter, Option, Some, None}
use Rattle.std.specs.List.{list_all}
use Rattle.lists.specs.Member.{In}
use Rattle.node.specs.declared.record.VoiceId.{VoiceId}
use Rattle.node.specs.declared.record.NodeId.{NodeId}
use Rattle.voice.specs.declared.policy.BudgetScope.{BudgetScope}
use Rattle.voice.specs.declared.policy.BudgetScope.TheVariants.{Global, PerGroup}
use Rattle.voice.specs.declared.policy.StealPolicy.{StealPolicy}
use Rattle.voice.specs.declared.policy.StealPolicy.TheVariants as policy
use Rattle.voice.specs.declared.policy.Candidate.{Candidate}
use Rattle.voice.specs.declared.policy.Admission.TheVariants as admission
use Rattle.voice.specs.Policy.{victim, admits}
use Rattle.voice.specs.Quietest.{QuietestGoes}
use Rattle.voice.specs.declared.voices.Voice.{Voice}
use Rattle.voice.specs.declared.voices.VoiceState.TheVariants.{Tracked}
use Rattle.model.specs.SharedState.{SharedState}
use Rattle.model.specs.Voice.{voice_level}
use Rattle.model.specs.Model.{Model, admission_on}

-- a candidate may be asked by a new voice of rank r: it does not outrank it, and no candidate's rank is lower than its
-- own
abbrev pub gives_way : ℕ → List Candidate → Candidate → Bool
gives_way r l c = leb c.rank r && list_all (λ (e : Candidate). leb c.rank e.rank) l

-- those who may be asked, in order of admission
abbrev pub asked : ℕ → List Candidate → List Candidate
asked r l = filter (gives_way r l) l

-- Who goes for a new voice of rank r: the place among those who are asked, and the id.
pub record VictimLaw (r : ℕ) (l : List Candidate) : Type 0 where
  pub reject : victim policy.Reject r l ≡ None
  pub oldest : (c : Candidate) (later : List Candidate) → asked r l ≡ c ∷ later
      → victim policy.Oldest r l ≡ Some (0, c.voice)
  pub newest : (before : List Candidate) (c : Candidate) → asked r l ≡ before ++ (c ∷ [])
      → victim policy.Newest r l ≡ Some (length before, c.voice)
  pub quietest : QuietestGoes (asked r l) (victim policy.Quietest r l)
  -- a policy that steals finds nobody exactly where all candidates outrank the new voice, or there is none
  pub nobody : (p : StealPolicy) → (p ≡ policy.Reject → ⊥)
      → (victim p r l ≡ None) ↔ ((c : Candidate) → In c l → r < c.rank)

-- What a new voice of rank r meets, where l are the voices that count: all of them for the budget, whatever their rank.
pub record AdmissionLaw (b : Option ℕ) (p : StealPolicy) (r : ℕ) (l : List Candidate) : Type 0 where
  pub unlimited : b ≡ None → admits b p r l ≡ admission.Admit
  pub below : (n : ℕ) → b ≡ Some n → length l < n → admits b p r l ≡ admission.Admit
  pub rejected : (n : ℕ) → b ≡ Some n → n ≤ length l → victim p r l ≡ None → admits b p r l ≡ admission.Reject
  pub stolen : (n : ℕ) → b ≡ Some n → n ≤ length l → (place : ℕ) (w : VoiceId) → victim p r l ≡ Some (place, w)
      → admits b p r l ≡ admission.Steal place w

-- ---- who counts: the tracked voices, all of them or those of the bus
abbrev pub ForBus : BudgetScope → NodeId → Voice → Type 0
ForBus Global bus v = Unit
ForBus PerGroup bus v = v.bus.0 ≡ bus.0

abbrev pub Counts : BudgetScope → NodeId → Voice → Type 0
Counts scope bus v = (v.state ≡ Tracked) × ForBus scope bus v

-- l has a candidate for each voice that counts, in order: its id, its level and its rank
abbrev pub Candidates : SharedState → NodeId → List Voice → List Candidate → Type 0
Candidates d bus [] l = l ≡ []
Candidates d bus (v ∷ vs) l =
    (Counts d.config.scope bus v
    × ((rest : List Candidate) × Candidates d bus vs rest
    × (l ≡ record { voice = v.id; level = voice_level d v; rank = v.rank } ∷ rest)))
    ⊎ ((Counts d.config.scope bus v → ⊥) × Candidates d bus vs l)

-- what a spawn meets in a store
abbrev pub AdmissionOn : Model → NodeId → ℕ → Type 0
AdmissionOn m bus r =
    (l : List Candidate) × Candidates m.shared bus m.voices l
    × (admission_on bus r m ≡ admits m.shared.config.budget m.shared.config.policy r l)
