-- Victim and admission: who counts for the budget (SPEC 9.2), who of them is in question by rank (SPEC 9.3), and whom
-- the policy names (SPEC 9.4). Candidates stand in voice order.
use Rattle.std.specs.Prelude.{ℕ, suc, min, List, [], ◌∷◌, Bool, true, false, ◌&&◌, cond, length, leb, eqb, Float, Option, None, Some, filter}
use Rattle.std.specs.Float.Ieee.{le}
use Rattle.lists.specs.Table.{rows_of}
use Rattle.node.specs.declared.record.VoiceId.{VoiceId}
use Rattle.node.specs.Refusal.{number_of}
use Rattle.node.specs.declared.record.NodeId.{NodeId}
use Rattle.node.specs.declared.refusal.Refusal.TheVariants.{Rejected}
use Rattle.voice.specs.declared.policy.StealPolicy.{StealPolicy}
use Rattle.voice.specs.declared.policy.StealPolicy.TheVariants as policy
use Rattle.voice.specs.declared.policy.BudgetScope.{BudgetScope}
use Rattle.voice.specs.declared.policy.BudgetScope.TheVariants.{Global, PerGroup}
use Rattle.lists.specs.declared.rows.Table.{Table}
use Rattle.voice.specs.declared.policy.Candidate.{Candidate}
use Rattle.voice.specs.declared.policy.Admission.{Admission}
use Rattle.voice.specs.declared.policy.Admission.TheVariants as admission

-- the candidates that a table holds, in order of admission
abbrev pub candidates_of : Table Candidate 64 → List Candidate
candidates_of t = rows_of 64 t.count t.rows

-- ---- the victim, by policy (SPEC 9.4)

-- who is stolen or freed: its place among the candidates of its rank, and its id
abbrev pub Victim : Type 0
Victim = Option (ℕ × VoiceId)

-- what the walk of `Quietest` holds: the place, the id and the level of the candidate taken so far
abbrev pub Held : Type 0
Held = Option (ℕ × VoiceId × Float)

-- the first
abbrev pub oldest : List Candidate → Victim
oldest [] = None
oldest (c ∷ l) = Some (0, c.voice)

-- the last; the first of the list stands at the place p
abbrev pub last_from : ℕ → List Candidate → Victim
last_from p [] = None
last_from p (c ∷ []) = Some (p, c.voice)
last_from p (c ∷ d ∷ l) = last_from (suc p) (d ∷ l)

abbrev pub newest : List Candidate → Victim
newest l = last_from 0 l

-- Whether the walk takes a level: the first known one, then each that is lower than the lowest so far or equal to it, by
-- IEEE 754's comparison: +0 and -0 are equal. Nothing is lower than a NaN or equal to it, nor is a NaN to anything, so a NaN
-- met first stays and one met later is passed over.
abbrev pub takes : Held → Float → Bool
takes None x = true
takes (Some (place, voice, level)) x = le x level

abbrev pub take? : Bool → Held → Held → Held
take? true new old = new
take? false new old = old

-- one candidate of the walk, at the place p
abbrev pub passed : Held → ℕ → Candidate → Option Float → Held
passed h p c None = h
passed h p c (Some x) = take? (takes h x) (Some (p, c.voice, x)) h

-- the walk, in order
abbrev pub walk : Held → ℕ → List Candidate → Held
walk h p [] = h
walk h p (c ∷ l) = walk (passed h p c c.level) (suc p) l

-- what the walk took, or the oldest where no level is known
abbrev pub took_or : Held → Victim → Victim
took_or None v = v
took_or (Some (place, voice, level)) v = Some (place, voice)

abbrev pub quietest : List Candidate → Victim
quietest l = took_or (walk None 0 l) (oldest l)

abbrev pub policy_victim : StealPolicy → List Candidate → Victim
policy_victim policy.Reject l = None
policy_victim policy.Oldest l = oldest l
policy_victim policy.Newest l = newest l
policy_victim policy.Quietest l = quietest l

-- ---- ranks: only candidates of the lowest rank are in question, and none where that is above the new voice's
-- (SPEC 9.3)

-- the lowest of r and the ranks of the candidates
abbrev pub lowest : ℕ → List Candidate → ℕ
lowest r [] = r
lowest r (c ∷ l) = lowest (min r c.rank) l

-- The candidates of the lowest rank, for a new voice of rank r. Where all of them outrank it, the lowest is r itself, and nobody has it.
abbrev pub of_lowest : ℕ → List Candidate → List Candidate
of_lowest r l = filter (λ c. eqb c.rank (lowest r l)) l

-- the candidate that gives way to a new voice of rank r, or nobody. Its place is the one among the candidates of its rank
abbrev pub victim : StealPolicy → ℕ → List Candidate → Victim
victim p r l = policy_victim p (of_lowest r l)

-- ---- admission

-- whether a tracked voice of the bus `theirs` counts for a new voice on `bus`
abbrev pub counts : BudgetScope → NodeId → NodeId → Bool
counts Global theirs bus = true
counts PerGroup theirs bus = eqb theirs.0 bus.0

-- At budget there are as many as the budget allows, or more. Without a budget never; with a budget of 0 always
-- (SPEC 9.2).
abbrev pub at_budget : Option ℕ → ℕ → Bool
at_budget None n = false
at_budget (Some most) n = leb most n

-- not at budget: nobody goes; else whom the policy names, or 11
abbrev pub decides : Bool → Victim → Admission
decides false v = admission.Admit
decides true None = admission.Reject
decides true (Some (place, voice)) = admission.Steal place voice

-- What a new voice of rank r meets; the candidates are the tracked voices that count for it. Without a budget it is
-- admitted, and the caller does not track it. All candidates count for the budget, whatever their rank.
abbrev pub admits : Option ℕ → StealPolicy → ℕ → List Candidate → Admission
admits b p r l = decides (at_budget b (length l)) (victim p r l)

-- the number that an admission stands for, or none: 11 where it rejects (SPEC 9.4)
abbrev pub admission_number : Admission → Option ℕ
admission_number admission.Admit = None
admission_number admission.Reject = Some (number_of Rejected)
admission_number (admission.Steal place voice) = None

abbrev pub nobody : Victim → Bool
nobody None = true
nobody (Some (place, voice)) = false

-- 11 where it is at budget and nobody gives way: the policy steals nobody, or all candidates outrank the new voice
abbrev pub reject_number : Option ℕ → StealPolicy → ℕ → List Candidate → Option ℕ
reject_number b p r l = cond (at_budget b (length l) && nobody (victim p r l)) (Some 11) None
