-- Voices that go one after the other, and the done flags that clearing looks at.
use Rattle.std.specs.Prelude.{ℕ, ◌+◌, ◌≡◌, min, List, [], ◌∷◌, map, Bool, false, cond, ltb, length, get_or, filter}
use Rattle.node.specs.declared.record.Node.{Node}
use Rattle.node.specs.declared.record.VoiceId.{VoiceId}
use Rattle.graph.specs.Node.{node_at}
use Rattle.voice.specs.declared.voices.Voice.{Voice}
use Rattle.voice.specs.Voice.{id}
use Rattle.model.specs.Clear.{done_flag, is_silent}
use Rattle.model.specs.Model.{Model, without_voice}

-- the voices of these ids go
abbrev pub without_each : List VoiceId → Model → Model
without_each [] m = m
without_each (w ∷ ws) m = without_each ws (without_voice w m)

abbrev pub silent_ids : List Node → List Voice → List VoiceId
silent_ids ns vs = map (λ (v : Voice). v.id) (filter (is_silent ns) vs)

-- the done flag at place j of a definition's nodes; places past them are clear
abbrev pub flag_at : List Node → ℕ → ℕ → ℕ → Bool
flag_at ns first count j = cond (ltb j (min count 24)) (done_flag (node_at ns (id (first + j)))) false

pub record FlagsAre (ns : List Node) (first count : ℕ) (flags : List Bool) : Type 0 where
  pub long : length flags ≡ 24
  pub is : (j : ℕ) → get_or flags j false ≡ flag_at ns first count j

-- the same by one test after the other, at a place below 24
abbrev pub done_within : List Node → ℕ → ℕ → ℕ → Bool
done_within ns first count j = cond (ltb j count) (done_flag (node_at ns (id (first + j)))) false
