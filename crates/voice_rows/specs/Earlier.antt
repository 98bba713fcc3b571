-- One step of the search for the fade that started earliest.
use Rattle.std.specs.Prelude.{ℕ, ◌≡◌, ◌⊎◌, List, [], get_or, Option, Some}
use Rattle.node.specs.declared.record.NodeId.{NodeId}
use Rattle.voice.specs.declared.voices.Voice.{Voice}
use Rattle.voice.specs.Voice.{fades_on}
use Rattle.model.specs.Spawn.{earlier}
use Rattle.voice_rows.specs.Rows.{voice_of}
use Rattle.voice_rows.specs.Found.{found_in}

pub record Earlier (vs : List Voice) (best : Option ℕ) (i : ℕ) (bus : NodeId) (r : Option ℕ) : Type 0 where
  pub is : found_in r vs ≡ earlier (found_in best vs) (fades_on bus (get_or vs i (voice_of []))) (get_or vs i (voice_of []))
  pub from : (r ≡ best) ⊎ (r ≡ Some i)
