-- Live nodes: who they are, whose they are (SPEC 1), what a new one holds (SPEC 4.1), and a bus's noise sequence
-- (SPEC 9.9).
use Rattle.std.specs.Prelude.{ℕ, ◌+◌, ◌%◌, List, map, Bool, false, not, cond, eqb, Option, None, Some, find}
use Rattle.std.specs.List.{list_any}
use Rattle.node.specs.Name.{name_of}
use Rattle.node.specs.Node.{new_node, with_noise}
use Rattle.edges.specs.Wiring.{listed}
use Rattle.node.specs.declared.record.NodeId.{NodeId}
use Rattle.node.specs.declared.record.VoiceId.{VoiceId}
use Rattle.node.specs.declared.record.Node.{Node}
pub use Rattle.node.specs.Node.{with_id}

-- so many nodes live at most (SPEC 2)
abbrev pub node_limit : ℕ
node_limit = 512

-- one above the last node id; all below it can be given out (SPEC 2)
abbrev pub id_limit : ℕ
id_limit = 4294967296

abbrev pub is_node : NodeId → Node → Bool
is_node k n = eqb n.id.0 k.0

abbrev pub owned_by : VoiceId → Node → Bool
owned_by v n = eqb n.owner.0 v.0

-- it belongs to one of these voices
abbrev pub owned_by_any : List ℕ → Node → Bool
owned_by_any ids n = listed ids n.owner.0

-- it belongs to one of these voices
abbrev pub owned_by_some : List VoiceId → Node → Bool
owned_by_some ws n = list_any (λ w. owned_by w n) ws

-- the node of this id, if it lives
abbrev pub node_at : List Node → NodeId → Option Node
node_at ns k = find (is_node k) ns

-- owner 0 is the host
abbrev pub of_voice : Option Node → Bool
of_voice None = false
of_voice (Some n) = not (eqb n.owner.0 0)

abbrev pub ports_of : Option Node → ℕ
ports_of None = 0
ports_of (Some n) = n.ports

abbrev pub host_id : VoiceId
host_id = record { 0 = 0 }

-- a node that the host adds. Its id is given when it is appended
abbrev pub host_node : List ℕ → ℕ → ℕ → Bool → Bool → Node
host_node kind ports required values glides = new_node (record { 0 = 0 }) host_id (name_of kind) ports required values glides

-- each bus counts its own noise sequence, in its node; 0 where there is none
abbrev pub noise_of : Option Node → ℕ
noise_of None = 0
noise_of (Some n) = n.noise

-- the sequence wraps after 2^32 - 1
abbrev pub next_noise : ℕ → ℕ
next_noise k = (k + 1) % 4294967296

-- the bus counts one voice more
abbrev pub raise_noise : NodeId → Node → Node
raise_noise bus n = cond (is_node bus n) (with_noise (next_noise n.noise) n) n

abbrev pub noise_raised : NodeId → List Node → List Node
noise_raised bus ns = map (raise_noise bus) ns

-- a node's record is replaced, as a report, a value or a glide does
abbrev pub replaced : List Node → Node → List Node
replaced ns n = map (λ m. cond (is_node n.id m) n m) ns
