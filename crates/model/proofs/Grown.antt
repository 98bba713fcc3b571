-- What a new voice's nodes and wires leave of a graph: nodes add no edge and take an id each, wires add no node.
use Prim.Native.Nat.{ℕ, ◌+◌}
use native.Mathlib.Omega.{arith}
use mathlib.Core.Path.{◌≡◌, refl}
use mathlib.Core.List.{List, [], ◌∷◌}
use lib.ListN.{length}
use Rattle.node.specs.declared.record.Node.{Node}
use Rattle.graph.specs.View.{GraphView}
use Rattle.graph.specs.Change.{append, connect}
use Rattle.voice.specs.Voice.{id}
use Rattle.model.specs.Spawn.{Wire, append_all, wire_all}

pub grown_next : (xs : List Node) (g : GraphView) → (append_all g xs).next ≡ g.next + length xs
grown_next [] g = omega arith
grown_next (x ∷ xs) g = omega (arith, grown_next xs (append g x))

pub grown_edges : (xs : List Node) (g : GraphView) → (append_all g xs).edges ≡ g.edges
grown_edges [] g = refl
grown_edges (x ∷ xs) g = grown_edges xs (append g x)

pub wired_nodes : (base : ℕ) (ws : List Wire) (g : GraphView) → (wire_all base g ws).nodes ≡ g.nodes
wired_nodes base [] g = refl
wired_nodes base (w ∷ ws) g = wired_nodes base ws (connect g (id (base + w.from)) (id (base + w.to)) w.port)
