-- What feeds a port.
use Rattle.std.specs.Prelude.{ℕ, ◌<◌, ◌≡◌, List, Bool, false, length, get_or}
use Rattle.node.specs.declared.record.NodeId.{NodeId}
use Rattle.node.specs.declared.record.Edge.{Edge}
use Rattle.edges.specs.Wiring.{taken}

-- the flags say of each of the ports 0 to 63 of the node n whether an edge ends there; of the last flag nothing is said
pub record FedPorts (fed : List Bool) (es : List Edge) (n : NodeId) : Type 0 where
  pub long : length fed ≡ 65
  pub are : (p : ℕ) → p < 64 → get_or fed p false ≡ taken es n p

-- the node of that id
abbrev pub node : ℕ → NodeId
node k = record { 0 = k }
