-- What making room on a bus leaves of the store m.
use Rattle.std.specs.Prelude.{ℕ, ◌≡◌, Option}
use Rattle.node.specs.declared.record.NodeId.{NodeId}
use Rattle.model.specs.Model.{Model, port_free}
use Rattle.bus_room.specs.Reclaimed.{reclaimed}

-- at most so many are removed, and this is the lowest free port of what is left
pub record Makes (fuel : ℕ) (bus : NodeId) (rank : ℕ) (m n : Model) (p : Option ℕ) : Type 0 where
  pub is : n ≡ reclaimed fuel bus rank m
  pub port : p ≡ port_free bus n
