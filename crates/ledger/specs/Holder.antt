-- The holder of a port of a host node: a host node, a voice or nobody (SPEC 21.1).
use Rattle.std.specs.Prelude.{ℕ, Bool, true, false, cond, ◌&&◌, eqb}
use Rattle.node.specs.declared.record.NodeId.{NodeId}
use Rattle.node.specs.declared.record.VoiceId.{VoiceId}

pub data Holder : Type 0 where
  nobody : Holder
  host : NodeId → Holder
  voice : VoiceId → Holder

-- the holder of each port, by node id and port
abbrev pub Holders : Type 0
Holders = ℕ → ℕ → Holder

abbrev pub is_held : Holder → Bool
is_held nobody = false
is_held (host k) = true
is_held (voice w) = true

abbrev pub by_voice : VoiceId → Holder → Bool
by_voice w nobody = false
by_voice w (host k) = false
by_voice w (voice u) = eqb u.0 w.0

abbrev pub by_host : NodeId → Holder → Bool
by_host k nobody = false
by_host k (host j) = eqb j.0 k.0
by_host k (voice w) = false

-- who is connected holds the port, and a new voice the one found
abbrev pub hold : NodeId → ℕ → Holder → Holders → Holders
hold b p x h n q = cond (eqb n b.0 && eqb q p) x (h n q)

-- when the holder is removed, or the node that has the port, it comes to nobody
abbrev pub drop_voice : VoiceId → Holders → Holders
drop_voice w h n q = cond (by_voice w (h n q)) nobody (h n q)

abbrev pub drop_node : NodeId → Holders → Holders
drop_node k h n q = cond (eqb n k.0) nobody (cond (by_host k (h n q)) nobody (h n q))
