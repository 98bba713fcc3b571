-- Voices named by a list of ids, and one voice more.
use Rattle.std.specs.Prelude.{ℕ, List, [], ◌∷◌, ◌++◌, Bool, cond, length, ltb}
use Rattle.edges.specs.Wiring.{listed}
use Rattle.voice.specs.declared.voices.Voice.{Voice}

-- the voice is one of these
abbrev pub is_any_of : List ℕ → Voice → Bool
is_any_of ids v = listed ids v.id.0

-- one voice more, if there is room
abbrev pub pushed_voice : List Voice → Voice → List Voice
pushed_voice vs v = cond (ltb (length vs) 64) (vs ++ (v ∷ [])) vs
