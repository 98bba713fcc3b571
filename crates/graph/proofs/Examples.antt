-- Closed scenes (SPEC 4): the definitions compute, and each scene shuts out a wrong rule that it names.
use Prim.Native.Nat.{ℕ, ◌+◌, ◌*◌}
use mathlib.Core.Path.{◌≡◌, refl}
use mathlib.Core.List.{List, [], ◌∷◌, map}
use Rattle.std.specs.Prelude.{Option, None, Some, option_map, Ok}
use mathlib.Core.Bool.{false}
use Rattle.node.specs.Refusal.{number_of}
use Rattle.node.specs.declared.record.NodeId.{NodeId}
use Rattle.node.specs.declared.record.Node.{Node}
use Rattle.node.specs.declared.record.Edge.{Edge}
use Rattle.node.specs.declared.refusal.Refusal.{Refusal}
use Rattle.edges.specs.Ports.{free_port, port_from, source_at}
use Rattle.rank.specs.Order.{among, fed, released, walk, order, whole, count_up}
use Rattle.prepare.specs.Live.{rising_from, live_nodes, live_ids, processing_order}
use Rattle.prepare.specs.Required.{any, lacks, lacking}
use Rattle.prepare.specs.Prepare.{Outcome, refused, prepare}
use Rattle.node.specs.declared.refusal.Refusal.TheVariants.{Cycle}
use Rattle.node.specs.Node.{with_owner}
use Rattle.graph.specs.View.{GraphView, new_graph}
use Rattle.graph.specs.Node.{host_node}
use Rattle.graph.specs.Change.{append, connect, disconnect, set_sink, remove_node, remove_voice}
use Rattle.graph.specs.Refuse.{add_refusal, host_refusal, disconnect_refusal, connect_refusal}

-- ---- a bus of 3 ports, three nodes of one port, and a node of voice 5
abbrev node : ℕ → NodeId
node k = record { 0 = k }

abbrev bus : List ℕ
bus = 66 ∷ 117 ∷ 115 ∷ []

abbrev plain : ℕ → Node
plain ports = host_node bus ports 0 false false

abbrev voiced : Node → Node
voiced n = with_owner (record { 0 = 5 }) n

abbrev shared : GraphView
shared = append (append (append (append (append new_graph (plain 3)) (plain 1)) (plain 1)) (plain 1)) (voiced (plain 1))

-- 1 and 2 feed the bus at 0 and 1, then 3 takes port 0; the voice's node feeds port 2
abbrev wires : GraphView
wires = connect (connect (connect (connect (set_sink shared (node 0)) (node 1) (node 0) 0) (node 2) (node 0) 1) (node 3) (node 0) 0) (node 4) (node 0) 2

abbrev number : Option Refusal → Option ℕ
number = option_map number_of

abbrev rows : List Edge → List ℕ
rows = map (λ e. e.from.0 * 100 + e.port)

-- an edge appended without dropping the old one would give four; one put in its place, another order
connect_drops : rows wires.edges ≡ 201 ∷ 300 ∷ 402 ∷ []
connect_drops = refl

-- the lowest, not the highest; of the ports that the node has
ports_full : free_port wires.edges (node 0) 3 ≡ None
ports_full = refl

ports_lowest : free_port (disconnect (disconnect wires (node 0) 2) (node 0) 1).edges (node 0) 3 ≡ Some 1
ports_lowest = refl

feeds_port : port_from wires.edges (node 3) (node 0) ≡ Some 0
feeds_port = refl

source : source_at wires.edges (node 0) 0 ≡ Some (node 3)
source = refl

-- a removal takes the edges from the node and those to it, and the sink if it is the sink
removed_source : rows (remove_node wires (node 2)).edges ≡ 300 ∷ 402 ∷ []
removed_source = refl

removed_sink : (remove_node wires (node 0)).sink ≡ None
removed_sink = refl

removed_target : (remove_node wires (node 0)).edges ≡ []
removed_target = refl

kept_sink : (remove_voice wires (record { 0 = 5 })).sink ≡ Some (node 0)
kept_sink = refl

removed_voice : rows (remove_voice wires (record { 0 = 5 })).edges ≡ 201 ∷ 300 ∷ []
removed_voice = refl

-- an id never returns
next_id : (append (remove_node wires (node 2)) (plain 0)).next ≡ 6
next_id = refl

-- ---- refusals, each where a lower row of the table would hold too
unknown_first : number (connect_refusal wires (node 4) (node 9) 7) ≡ Some 4
unknown_first = refl

voice_next : number (connect_refusal wires (node 4) (node 0) 7) ≡ Some 5
voice_next = refl

port_next : number (connect_refusal wires (node 1) (node 0) 3) ≡ Some 6
port_next = refl

replacing : number (connect_refusal wires (node 1) (node 0) 2) ≡ None
replacing = refl

no_such_port : number (disconnect_refusal wires (node 1) 1) ≡ Some 6
no_such_port = refl

empty_port : number (disconnect_refusal wires (node 1) 0) ≡ None
empty_port = refl

voice_sink : number (host_refusal wires (node 4)) ≡ Some 5
voice_sink = refl

ports_64 : number (add_refusal wires bus 64 18446744073709551615) ≡ None
ports_64 = refl

ports_65 : number (add_refusal wires bus 65 0) ≡ Some 6
ports_65 = refl

no_name : number (add_refusal wires [] 1 0) ≡ Some 6
no_name = refl

required_2 : number (add_refusal wires bus 2 4) ≡ Some 6
required_2 = refl

-- ---- "In the page's scene the order of the third prepare is 1, 2, 4, 3, 0", with the graph made call by call: the bus, the
-- tones of two voices, the fade that takes the first one's port, the third voice's tone
abbrev page : GraphView
page =
    let one = connect (append (append new_graph (plain 3)) (plain 0)) (node 1) (node 0) 0 in
    let two = connect (append one (plain 0)) (node 2) (node 0) 1 in
    let faded = connect (connect (append two (plain 1)) (node 1) (node 3) 0) (node 3) (node 0) 0 in
    connect (append faded (plain 0)) (node 4) (node 0) 2

abbrev prepared : GraphView → Outcome
prepared v = prepare v.nodes v.edges

page_order : prepared page ≡ record { answer = Ok tt; order = map node (1 ∷ 2 ∷ 4 ∷ 3 ∷ 0 ∷ []) }
unfolding prepare processing_order among fed released walk order whole rising_from live_nodes live_ids any lacks lacking count_up
page_order = refl

-- a node that feeds itself is a cycle
page_cycle : prepared (connect page (node 3) (node 3) 0) ≡ refused Cycle
unfolding prepare processing_order among fed released walk order whole rising_from live_nodes live_ids any lacks lacking count_up
page_cycle = refl
