-- The two passes of clearing: "first the voices whose fade has ended, in voice order, then those whose done plan is silent".
use Rattle.std.specs.Prelude.{ℕ, ◌≡◌, List, [], map, Bool, get_or, filter}
use Rattle.lists.specs.Table.{rows_of}
use Rattle.lists.specs.declared.rows.Table.{Table}
use Rattle.voice.specs.declared.voices.Voice.{Voice}
use Rattle.model.specs.Clear.{ended}
use Rattle.voice_rows.specs.Rows.{voice_of, voices_in}

-- the fade has ended
abbrev pub has_faded : ℕ → Voice → Bool
has_faded len v = ended len v.state

-- what the calls of a test return, of a row of the words vs, is whether the voice there leaves
abbrev pub Tells : (ℕ → Bool → Type 0) → List ℕ → (Voice → Bool) → Type 0
Tells post vs leaves = (i : ℕ) (b : Bool) → post i b → b ≡ leaves (get_or (voices_in vs) i (voice_of []))

-- the ids of those of these voices that pass a test
abbrev pub Gathered : (Voice → Bool) → List Voice → Table ℕ 64 → Type 0
Gathered q vs r = rows_of 64 r.count r.rows ≡ map (λ (v : Voice). v.id.0) (filter q vs)
