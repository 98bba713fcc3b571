-- A row of the table of voices that was looked for: the voice that stands there, or none.
use Rattle.std.specs.Prelude.{ℕ, ◌<◌, ◌≡◌, List, [], length, take, get_or, Option, Some, option_map}
use Rattle.voice.specs.declared.voices.Voice.{Voice}
use Rattle.voice_rows.specs.Rows.{voice_of}

abbrev pub found_in : Option ℕ → List Voice → Option Voice
found_in r vs = option_map (λ i. get_or vs i (voice_of [])) r

-- of the first `count` voices it is this one
pub record FoundAt (r : Option ℕ) (count : ℕ) (vs : List Voice) (o : Option Voice) : Type 0 where
  pub is : found_in r vs ≡ o
  pub within : (i : ℕ) → r ≡ Some i → i < length (take count vs)
