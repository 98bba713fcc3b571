-- Several voices removed, each with its nodes and their edges, one after the other.
use Rattle.std.specs.Prelude.{ℕ, List, [], ◌∷◌}
use Rattle.model.specs.Model.{Model, without_voice}

abbrev pub without_ids : List ℕ → Model → Model
without_ids [] m = m
without_ids (k ∷ ids) m = without_ids ids (without_voice (record { 0 = k }) m)
