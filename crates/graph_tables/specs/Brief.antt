-- The refusals of the host's wiring, asked of what was read of the nodes: `host_test`, `port_test` and `wire_test` of crate graph
-- (proofs/Brief.antt: the same, of the node that was looked for).
use Rattle.std.specs.Prelude.{ℕ, Bool, not, ◌||◌, eqb, leb, Option, None, Some}
use Rattle.node.specs.declared.refusal.Refusal.{Refusal}
use Rattle.node.specs.declared.refusal.Refusal.TheVariants.{UnknownNode, VoiceNode, PortOrKind, TableFull}
use Rattle.graph.specs.Refuse.{when}
use Rattle.graph_rows.specs.declared.node_row.Brief.{Brief}

-- owner 0 is the host
abbrev pub of_voice : Brief → Bool
of_voice n = not (eqb n.owner.0 0)

abbrev pub host_brief : Option Brief → Option Refusal
host_brief None = Some UnknownNode
host_brief (Some n) = when (of_voice n) VoiceNode None

abbrev pub port_brief : Option Brief → ℕ → Option Refusal
port_brief None p = Some UnknownNode
port_brief (Some n) p = when (of_voice n) VoiceNode (when (leb n.ports p) PortOrKind None)

abbrev pub wire_brief : Option Brief → Option Brief → ℕ → Bool → Option Refusal
wire_brief None b p full = Some UnknownNode
wire_brief (Some a) None p full = Some UnknownNode
wire_brief (Some a) (Some b) p full =
    when (of_voice a || of_voice b) VoiceNode
    (when (leb b.ports p) PortOrKind
    (when full TableFull None))
