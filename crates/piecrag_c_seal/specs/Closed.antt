-- When a spawn, or a wish for one, that a host in C makes from a book is answered by 28 (SPEC 18): exactly where the board is sealed and does
-- not leave it open. A seal leaves open what is managed, on its bus, and has no more nodes and edges than it says, as the book gives them:
-- also a book that is beyond the limits of a definition is counted. So 28 comes before all that such a call is refused for.
use Rattle.std.specs.Prelude.{ℕ, ◌≤◌, ◌≡◌, ◌↔◌, List, Bool, true, Float, None, Some}
use Rattle.node.specs.declared.record.NodeId.{NodeId}
use Rattle.def_book.specs.Read.{Read, gives, malformed, limits}
use Rattle.memory.specs.View.{Memory}
use Rattle.sealed.specs.declared.profile.Profile.{Profile}
use Rattle.sealed.specs.Seal.{Seal}
use Rattle.call_seal.specs.Board.{BoardMemory}
use Rattle.seal_words.specs.Seal.{seal_in}
use Rattle.piecrag_c_seal.specs.Book.{SpawnFromBook, WishFromBook}

-- the nodes and edges that a book gives, as far as it can be read
abbrev pub nodes_in : Read → ℕ
nodes_in (gives d) = d.nodes.count
nodes_in (malformed at) = 0
nodes_in (limits nodes edges) = nodes

abbrev pub edges_in : Read → ℕ
edges_in (gives d) = d.edges.count
edges_in (malformed at) = 0
edges_in (limits nodes edges) = edges

pub record LeftOpen (s : Profile) (managed : Bool) (bus : NodeId) (b : Read) : Type 0 where
  pub is_managed : managed ≡ true
  pub on_bus : bus.0 ≡ s.bus.0
  pub nodes : nodes_in b ≤ s.def_nodes
  pub edges : edges_in b ≤ s.def_edges

-- the call answers k on a board with this seal
pub record ClosedFirst (x : Seal) (managed : Bool) (bus : NodeId) (b : Read) (k : ℕ) : Type 0 where
  pub unsealed : x ≡ None → k ≡ 28 → ⊥
  pub sealed : (s : Profile) → x ≡ Some s → (k ≡ 28) ↔ (LeftOpen s managed bus b → ⊥)

abbrev pub SpawnClosed : Type 0
SpawnClosed =
    (b : Read) (managed : Bool) (bus : NodeId) (pan : Float) (rank : ℕ) (m : BoardMemory) (w : List ℕ) (old k : ℕ) (n : BoardMemory) (v : List ℕ) (new : ℕ)
    → SpawnFromBook b managed bus pan rank m w old k n v new → ClosedFirst m.seal managed bus b k

abbrev pub WishClosed : Type 0
WishClosed =
    (b : Read) (q : ℕ) (managed : Bool) (bus : NodeId) (pan : Float) (rank : ℕ) (m : Memory) (z u c : List ℕ) (k : ℕ) (t d : List ℕ)
    → WishFromBook b q managed bus pan rank m z u c k t d → ClosedFirst (seal_in z) managed bus b k
