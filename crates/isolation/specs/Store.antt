-- The theorem said of the store: what its own calls answered, its own voices on the bus and its own steal records. Which calls have an entry is the
-- story's, of the ledger that is fed the same calls and nothing from the store.
use Rattle.std.specs.Prelude.{ℕ, ◌≡◌, List, [], ◌∷◌, ◌++◌, map, cond, length, Some, filter, is_some}
use Rattle.node.specs.declared.record.NodeId.{NodeId}
use Rattle.voice.specs.declared.policy.BudgetScope.TheVariants.{PerGroup}
use Rattle.voice.specs.declared.steals.StealRecord.{StealRecord}
use Rattle.voice.specs.declared.voices.Voice.{Voice}
use Rattle.model.specs.SharedState.{SharedState}
use Rattle.voice.specs.Voice.{is_on}
use Rattle.model.specs.Voice.{voice_level}
use Rattle.model.specs.Model.{Model}
use Rattle.model.specs.Make.{Making, config_of, make}
use Rattle.model.proofs.Refused.{refusal_in}
use Rattle.model.specs.Page.{port_now}
use Rattle.model.specs.Call.{Call}
use Rattle.model.specs.Call as call
use Rattle.ledger.specs.Ledger.{Ledger, new_ledger}
use Rattle.ledger.specs.Call.{step}
use Rattle.ledger.specs.Claim.{after, held_record}
use Rattle.isolation.specs.Story.{BusVoice, phase_of, entry, shown, Told, tell, all_victims, from_to, nth}
use Rattle.isolation.specs.Isolated.{Covered}
use Rattle.isolation.specs.Agree.{Matching, Agreement}

-- A voice of the store: number (from which the seeds of its nodes follow), rank, birth, port given and port fed now, fade with its start and its
-- position in samples, level.
abbrev pub store_voice : SharedState → Voice → BusVoice
store_voice d v = record { number = v.sequence; rank = v.rank; birth = v.birth; port = v.port; holds = port_now d.graph.edges v; phase = phase_of v.state; level = voice_level d v }

-- the voices of the bus, in their order
abbrev pub store_voices : NodeId → Model → List BusVoice
store_voices b m = map (store_voice m.shared) (filter (is_on b) m.voices)

-- what a call of the store answered, and the bus's voices then
abbrev pub store_told : NodeId → call.Step → Told
store_told b s = record { answer = shown (refusal_in s.answer); voices = store_voices b s.model }

-- the store's tale: that of the calls which have an entry in the story
abbrev pub store_tale : NodeId → List Call → Ledger → Model → List Told
store_tale b [] l m = []
store_tale b (x ∷ xs) l m = let s = call.step x m in tell (entry b x l) (store_told b s) (store_tale b xs (step x l).ledger s.model)

-- the numbers of the records that these calls wrote
abbrev pub store_written : NodeId → List Call → Ledger → Model → List ℕ
store_written b [] l m = []
store_written b (x ∷ xs) l m =
    let n = (call.step x m).model in
    cond (is_some (entry b x l)) (from_to m.shared.steals.count n.shared.steals.count) [] ++ store_written b xs (step x l).ledger n

-- The two histories of the store m, which making by k gave.
pub record StoreIsolation (k : Making) (m : Model) (b₁ b₂ : NodeId) (xs₁ xs₂ : List Call) : Type 0 where
  -- entry by entry: what the spawn answered, and the voices of the bus
  pub told : store_tale b₁ xs₁ (new_ledger (config_of k)) m ≡ store_tale b₂ xs₂ (new_ledger (config_of k)) m
  -- and when both histories have ended
  pub voices : store_voices b₁ (after m xs₁) ≡ store_voices b₂ (after m xs₂)
  -- so, at each entry, the same victims by their places
  pub victims : all_victims [] (store_tale b₁ xs₁ (new_ledger (config_of k)) m) ≡ all_victims [] (store_tale b₂ xs₂ (new_ledger (config_of k)) m)
  -- as many steals; and the j-th record of the bus, where the store still holds it after both, is the same
  pub steals : length (store_written b₁ xs₁ (new_ledger (config_of k)) m) ≡ length (store_written b₂ xs₂ (new_ledger (config_of k)) m)
  pub records : (j n₁ n₂ : ℕ) (r₁ r₂ : StealRecord)
      → nth j (store_written b₁ xs₁ (new_ledger (config_of k)) m) ≡ Some n₁ → nth j (store_written b₂ xs₂ (new_ledger (config_of k)) m) ≡ Some n₂
      → held_record (after m xs₁).shared.steals n₁ ≡ Some r₁ → held_record (after m xs₂).shared.steals n₂ ≡ Some r₂ → r₁ ≡ r₂

-- of every store that was made, and every two lists of calls on it that agree up to a matching of ids
abbrev pub StoreIsolated : Type 0
StoreIsolated =
    (k : Making) (m : Model) → make k ≡ Some m → k.scope ≡ PerGroup → (ids : Matching) (b₁ b₂ : NodeId) (xs₁ xs₂ : List Call)
    → Covered xs₁ (new_ledger (config_of k)) → Covered xs₂ (new_ledger (config_of k)) → Agreement ids (config_of k) b₁ b₂ xs₁ xs₂ → StoreIsolation k m b₁ b₂ xs₁ xs₂
