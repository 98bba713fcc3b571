-- What sealing asks of the store, by what is read of its tables: the bus in short, and how many nodes, edges and voices there are.
use Rattle.std.specs.Prelude.{ℕ, Bool, false, ◌&&◌, eqb, leb, Option, None, Some}
use Rattle.graph_rows.specs.declared.node_row.Brief.{Brief}
use Rattle.sealed.specs.declared.profile.Profile.{Profile}
use Rattle.sealed.specs.Seal.{nodes_for, edges_for}

abbrev pub fitting : Profile → Bool
fitting p = leb 2 p.ports && (leb p.ports 31 && (leb (nodes_for p) 512 && leb (edges_for p) 1024))

-- the bus lives, is the host's, and has so many ports
abbrev pub bus_briefed : Option Brief → ℕ → Bool
bus_briefed None ports = false
bus_briefed (Some b) ports = eqb b.owner.0 0 && eqb b.ports ports

abbrev pub stated : Option Brief → ℕ → ℕ → ℕ → Profile → Bool
stated bus nodes edges voices p =
    bus_briefed bus p.ports && (eqb nodes p.host_nodes && (eqb edges p.host_edges && eqb voices 0))
