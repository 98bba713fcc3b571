-- Clearing (SPEC 13.2): first the voices whose fade has ended go, then those that are silent in what is left.
use Rattle.std.specs.Prelude.{ℕ, suc, ◌≡◌, ◌+◌, ◌≤◌, ◌⊎◌, ◌↔◌, List, [], ◌∷◌, true}
use Rattle.lists.specs.Member.{In}
use Rattle.bus.specs.Fade.{fade_length}
use Rattle.node.specs.declared.record.Node.{Node}
use Rattle.voice.specs.declared.voices.Voice.{Voice}
use Rattle.voice.specs.declared.voices.VoiceState.{VoiceState}
use Rattle.voice.specs.declared.voices.VoiceState.TheVariants.{Tracked, Fading, Loose}
use Rattle.model.specs.Clear.{is_silent}
use Rattle.model.specs.Model.{Model}
use Rattle.model.specs.Call.{step}
use Rattle.model.specs.Call as call

-- a fade ends where its position reaches the fade's length
abbrev pub Ended : ℕ → VoiceState → Type 0
Ended len Tracked = ⊥
Ended len (Fading f) = len ≤ f.position
Ended len Loose = ⊥

-- some voice of the store whose fade has ended has this id
abbrev pub EndedId : Model → ℕ → Type 0
EndedId m k = (w : Voice) × In w m.voices × Ended (fade_length m.shared.config.rate) w.state × (k ≡ w.id.0)

-- some silent voice of the store has this id, whatever its state
abbrev pub SilentId : Model → ℕ → Type 0
SilentId m k = (w : Voice) × In w m.voices × (is_silent m.shared.graph.nodes w ≡ true) × (k ≡ w.id.0)

-- k rows of the list have the property
abbrev pub Number : (Voice → Type 0) → List Voice → ℕ → Type 0
Number P [] k = k ≡ 0
Number P (v ∷ vs) k = (P v × ((j : ℕ) × Number P vs j × (k ≡ suc j))) ⊎ ((P v → ⊥) × Number P vs k)

-- `faded` is the store without the voices whose fade has ended and their nodes; a voice that is not silent in it stays.
pub record ClearLaw (m : Model) : Type 0 where
  pub faded : Model
  pub ended_go : (v : Voice) → In v faded.voices ↔ (In v m.voices × (EndedId m v.id.0 → ⊥))
  pub their_nodes : (n : Node) → In n faded.shared.graph.nodes ↔ (In n m.shared.graph.nodes × (EndedId m n.owner.0 → ⊥))
  pub silent_go : (v : Voice)
      → In v (step call.clear m).model.voices ↔ (In v faded.voices × (SilentId faded v.id.0 → ⊥))
  -- and the answer says how many went
  pub told : (a b : ℕ) × Number (λ v. Ended (fade_length m.shared.config.rate) v.state) m.voices a
      × Number (λ v. is_silent faded.shared.graph.nodes v ≡ true) faded.voices b
      × ((step call.clear m).answer ≡ call.removed (a + b))
