-- What the tests of a board look at: of a spawn, and of the store that is sealed.
use Rattle.std.specs.Prelude.{ℕ, Bool, false, not, ◌&&◌, eqb, leb, Option, None, Some, Result, Ok, Err}
use Rattle.node.specs.declared.record.Node.{Node}
use Rattle.node.specs.declared.record.NodeId.{NodeId}
use Rattle.sealed.specs.declared.profile.Profile.{Profile}
use Rattle.sealed.specs.Seal.{Seal, nodes_for, edges_for}
use Rattle.board.specs.declared.closing.BoardRefusal.{BoardRefusal}

-- of a spawn, or of a wish for it, with so many nodes and edges
abbrev pub leaves_out : Profile → Bool → NodeId → ℕ → ℕ → Bool
leaves_out s managed bus nodes edges = not (managed && (eqb bus.0 s.bus.0 && (leb nodes s.def_nodes && leb edges s.def_edges)))

abbrev pub shuts_spawn : Seal → Bool → NodeId → ℕ → ℕ → Bool
shuts_spawn None managed bus nodes edges = false
shuts_spawn (Some s) managed bus nodes edges = leaves_out s managed bus nodes edges

-- of the profile alone
abbrev pub fitting : Profile → Bool
fitting p = leb 2 p.ports && (leb p.ports 31 && (leb (nodes_for p) 512 && leb (edges_for p) 1024))

-- the bus lives, is the host's, and has so many ports
abbrev pub bus_stated : Option Node → ℕ → Bool
bus_stated None ports = false
bus_stated (Some n) ports = eqb n.owner.0 0 && eqb n.ports ports

-- of a store with that bus and so many nodes, edges and voices
abbrev pub stated : Option Node → ℕ → ℕ → ℕ → Profile → Bool
stated bus nodes edges voices p =
    bus_stated bus p.ports && (eqb nodes p.host_nodes && (eqb edges p.host_edges && eqb voices 0))

-- what the store or the console gives, on a board that does not close the call
abbrev pub opened : {A R : Type 0} → Result A R → Result A (BoardRefusal R)
opened (Ok x) = Ok x
opened (Err r) = Err (BoardRefusal.Given r)
