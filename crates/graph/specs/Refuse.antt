-- The refusals of the host's calls on nodes, edges and the sink (SPEC 4), each in its order (SPEC 20).
use Rattle.std.specs.Prelude.{ℕ, ◌^◌, List, Bool, true, false, not, ◌||◌, leb, ltb, length, Option, None, Some, is_some}
use Rattle.node.specs.Name.{name_length}
use Rattle.node.specs.declared.record.NodeId.{NodeId}
use Rattle.node.specs.declared.record.Node.{Node}
use Rattle.node.specs.declared.refusal.Refusal.{Refusal}
use Rattle.node.specs.declared.refusal.Refusal.TheVariants.{UnknownNode, VoiceNode, PortOrKind, TableFull, IdsUsedUp}
use Rattle.edges.specs.Wiring.{no_place}
use Rattle.graph.specs.View.{GraphView}
use Rattle.graph.specs.Node.{node_limit, id_limit, node_at, of_voice, ports_of}

-- a row of the table: refused if the test holds, else what the rows below say
abbrev pub when : Bool → Refusal → Option Refusal → Option Refusal
when true r rest = Some r
when false r rest = rest

-- 4: no such node lives
abbrev pub dead : Option Node → Bool
dead o = not (is_some o)

-- 7, 8: a place in the node table, and an id
abbrev pub append_refusal : GraphView → Option Refusal
append_refusal v = when (leb node_limit (length v.nodes)) TableFull (when (leb id_limit v.next) IdsUsedUp None)

-- 6: more than 64 ports, a kind that is no name, or a required port that is none of the node's (bit p of `required`
-- stands for port p)
abbrev pub bad_kind : List ℕ → ℕ → ℕ → Bool
bad_kind kind ports required = ltb 64 ports || (not (name_length (length kind)) || leb (2 ^ ports) required)

-- adding a host node: 6, 7, 8 (SPEC 4.1)
abbrev pub add_refusal : GraphView → List ℕ → ℕ → ℕ → Option Refusal
add_refusal v kind ports required = when (bad_kind kind ports required) PortOrKind (append_refusal v)

-- removing a host node, setting the sink: 4, 5 (SPEC 4.2, 4.5)
abbrev pub host_test : Option Node → Option Refusal
host_test n = when (dead n) UnknownNode (when (of_voice n) VoiceNode None)

abbrev pub host_refusal : GraphView → NodeId → Option Refusal
host_refusal v k = host_test (node_at v.nodes k)

-- disconnecting: 4, 5, and 6: the node has no such port (SPEC 4.4)
abbrev pub port_test : Option Node → ℕ → Option Refusal
port_test n p = when (dead n) UnknownNode (when (of_voice n) VoiceNode (when (leb (ports_of n) p) PortOrKind None))

abbrev pub disconnect_refusal : GraphView → NodeId → ℕ → Option Refusal
disconnect_refusal v b p = port_test (node_at v.nodes b) p

-- connecting: 4 of either node, 5 of either node, 6, 7 (SPEC 4.3)
abbrev pub wire_test : Option Node → Option Node → ℕ → Bool → Option Refusal
wire_test a b p full =
    when (dead a || dead b) UnknownNode
    (when (of_voice a || of_voice b) VoiceNode
    (when (leb (ports_of b) p) PortOrKind
    (when full TableFull None)))

abbrev pub connect_refusal : GraphView → NodeId → NodeId → ℕ → Option Refusal
connect_refusal v a b p = wire_test (node_at v.nodes a) (node_at v.nodes b) p (no_place v.edges b p)
