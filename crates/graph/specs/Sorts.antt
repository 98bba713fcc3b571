-- What prepare computes on the way, by rows, and what it leaves. What has to be believed is `prepare` of crate prepare.
use Rattle.std.specs.Prelude.{ℕ, ◌≡◌, List, map, get_or, length, Result, Ok, Err}
use Rattle.node.specs.declared.record.Node.{Node}
use Rattle.node.specs.declared.record.NodeId.{NodeId}
use Rattle.node.specs.declared.record.Edge.{Edge}
use Rattle.node.specs.declared.refusal.Refusal.{Refusal}
use Rattle.prepare.specs.Live.{live_ids, as_id}
use Rattle.prepare.specs.Parts.{Plugged, source_row, target_row}
use Rattle.prepare.specs.Prepare.{prepare}
use Rattle.graph.specs.View.{GraphView, prepared_by}
use Rattle.graph.specs.Sound.{id_of}
use Rattle.graph.specs.Masks.{ports_in}

-- the masks say which ports an edge feeds
abbrev pub FedPorts : List ℕ → List Node → List Edge → Type 0
FedPorts fed nodes edges = Plugged (ports_in fed) (length nodes) (map (source_row (live_ids nodes)) edges) (map (target_row (live_ids nodes)) edges) edges

-- the ids in these rows
abbrev pub named : List Node → List ℕ → List NodeId
named nodes rows = map (λ r. as_id (get_or (map id_of nodes) r 0)) rows

-- the answer, and the order that is left: as it was where it is refused
pub record Sorts (nodes : List Node) (edges : List Edge) (old new : List NodeId) (r : Result (Unit {0}) Refusal) : Type 0 where
  pub answer : r ≡ (prepare nodes edges).answer
  pub order : r ≡ Ok tt → new ≡ (prepare nodes edges).order
  pub kept : (x : Refusal) → r ≡ Err x → new ≡ old

-- a graph with that outcome: prepared, or as it was
abbrev pub prepared_as : Result (Unit {0}) Refusal → List NodeId → GraphView → GraphView
prepared_as (Ok x) l v = prepared_by v l
prepared_as (Err r) l v = v

abbrev pub prepared : GraphView → GraphView
prepared v = prepared_as (prepare v.nodes v.edges).answer (prepare v.nodes v.edges).order v
