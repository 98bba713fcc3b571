-- The fields of "add a host node" and "connect" (docs/REPLAY.md).
use Rattle.std.specs.Prelude.{ℕ, ◌/◌, ◌%◌, List, eqb}
use Rattle.codec.specs.Field.{moved, little}
use Rattle.node.specs.declared.record.Edge.{Edge}
use Rattle.graph.specs.declared.host.HostNode.{HostNode}
use Rattle.script.specs.Name.{name_end}

-- "u32 ports, u64 required ports (bit p for port p), u8 takes (1 for values plus 2 for glides)"
abbrev pub host_node_from : List ℕ → ℕ → HostNode
host_node_from s at =
    record {
      ports = little 4 s at;
      required = little 8 s (moved at 4);
      takes_values = eqb (little 1 s (moved at 12) % 2) 1;
      takes_glides = eqb (little 1 s (moved at 12) / 2 % 2) 1;
    }

-- these stand behind "name kind"
abbrev pub host_node_at : List ℕ → ℕ → HostNode
host_node_at s at = host_node_from s (name_end s at)

-- "u32 from, u32 to, u32 port"
abbrev pub wire_at : List ℕ → ℕ → Edge
wire_at s at = record { from = record { 0 = little 4 s at }; to = record { 0 = little 4 s (moved at 4) }; port = little 4 s (moved at 8) }
