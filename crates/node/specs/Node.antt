-- A node's record (SPEC 1): what a new one holds (SPEC 4.1), and one part of it changed.
use Rattle.std.specs.Prelude.{ℕ, Bool, false, Float}
use Rattle.std.specs.Float.Ieee.{of_bits}
use Rattle.std.specs.Float.{binary32}
use Rattle.node.specs.declared.name.Name.{Name}
use Rattle.node.specs.declared.order.LastOrder.{LastOrder}
use Rattle.node.specs.declared.record.NodeId.{NodeId}
use Rattle.node.specs.declared.record.VoiceId.{VoiceId}
use Rattle.node.specs.declared.record.Node.{Node}

-- a node of which only these parts ever change: the rest is that of n
abbrev pub changed : NodeId → VoiceId → Bool → Float → LastOrder → ℕ → Node → Node
changed id owner done level last noise n =
    record {
      id = id;
      owner = owner;
      kind = n.kind;
      ports = n.ports;
      required = n.required;
      takes_values = n.takes_values;
      takes_glides = n.takes_glides;
      done = done;
      level = level;
      last = last;
      noise = noise;
    }

-- a new node: the done flag is clear, the level 0, no order was taken, and as a bus it counts its noise sequence from 0
abbrev pub new_node : NodeId → VoiceId → Name → ℕ → ℕ → Bool → Bool → Node
new_node id owner kind ports required values glides =
    record {
      id = id;
      owner = owner;
      kind = kind;
      ports = ports;
      required = required;
      takes_values = values;
      takes_glides = glides;
      done = false;
      level = of_bits binary32 0;
      last = LastOrder.Nothing;
      noise = 0;
    }

abbrev pub with_id : ℕ → Node → Node
with_id k n = changed (record { 0 = k }) n.owner n.done n.level n.last n.noise n

abbrev pub with_owner : VoiceId → Node → Node
with_owner w n = changed n.id w n.done n.level n.last n.noise n

-- a value or a glide becomes the last order
abbrev pub with_last : LastOrder → Node → Node
with_last o n = changed n.id n.owner n.done n.level o n.noise n

-- a report: the level of its block, and the done flag
abbrev pub reported : Float → Bool → Node → Node
reported level done n = changed n.id n.owner done level n.last n.noise n

-- the next number of the noise sequence is k
abbrev pub with_noise : ℕ → Node → Node
with_noise k n = changed n.id n.owner n.done n.level n.last k n
