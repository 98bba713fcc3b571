-- Counted edges (SPEC 6.2): of several to one port the last. They stand in the order of their last occurrence, which is
-- what connecting the edges one by one leaves (`connect_one_by_one` of `EdgeLaws`).
use Rattle.std.specs.Prelude.{ℕ, List, [], ◌∷◌, ◌++◌, Bool, not, ◌&&◌, eqb, Option, cond, filter, find, option_map}
use Rattle.synthdef.specs.Rows.{any}
use Rattle.synthdef.specs.declared.def.DefEdge.{DefEdge}

-- the edge ends at port p of node i
abbrev pub ends_at : ℕ → ℕ → DefEdge → Bool
ends_at i p e = eqb e.to i && eqb e.port p

-- an edge of the list ends at the port at which e ends
abbrev pub taken : DefEdge → List DefEdge → Bool
taken e es = any (ends_at e.to e.port) es

-- the edges that count: those to whose port no later edge goes
abbrev pub counted : List DefEdge → List DefEdge
counted [] = []
counted (e ∷ es) = cond (not (taken e es)) (e ∷ (counted es)) (counted es)

-- the source that is connected to port p of node i
abbrev pub source_at : List DefEdge → ℕ → ℕ → Option ℕ
source_at es i p = option_map (λ e. e.from) (find (ends_at i p) es)

-- connecting, as the graph does: the edge at that port goes, and the new one is put last
abbrev pub connect : List DefEdge → DefEdge → List DefEdge
connect l e = filter (λ x. not (ends_at x.to x.port e)) l ++ (e ∷ [])

abbrev pub connect_all : List DefEdge → List DefEdge → List DefEdge
connect_all l [] = l
connect_all l (e ∷ es) = connect_all (connect l e) es
