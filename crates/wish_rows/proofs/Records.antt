-- Two records with the same fields are the same.
use Prim.Native.Nat.{ℕ}
use mathlib.Core.Path.{◌≡◌}
use mathlib.Core.Bool.{Bool}
use mathlib.Core.List.{List}
use lib.Ieee.{Float}
use Rattle.node.specs.declared.record.NodeId.{NodeId}
use Rattle.synthdef.specs.declared.def.DefNode.{DefNode}
use Rattle.synthdef.specs.declared.def.DefEdge.{DefEdge}
use Rattle.synthdef.specs.Tables.{DefNodes}
use Rattle.synthdef.specs.Tables.{DefEdges}
use Rattle.synthdef.specs.Tables.{Params}
use Rattle.synthdef.specs.declared.def.SynthDef.{SynthDef}
use Rattle.store.specs.declared.wish.Wish.{Wish}

nodes : List DefNode → ℕ → DefNodes
nodes l k = record { rows = l; count = k }

pub nodes_same : (m n : DefNodes) → m.rows ≡ n.rows → m.count ≡ n.count → m ≡ n
unfolding nodes
nodes_same m n a b = let same : nodes m.rows m.count ≡ nodes n.rows n.count = cc in same

edges : List DefEdge → ℕ → DefEdges
edges l k = record { rows = l; count = k }

pub edges_same : (m n : DefEdges) → m.rows ≡ n.rows → m.count ≡ n.count → m ≡ n
unfolding edges
edges_same m n a b = let same : edges m.rows m.count ≡ edges n.rows n.count = cc in same

def : DefNodes → DefEdges → Params → ℕ → SynthDef
def a b c d = record { nodes = a; edges = b; params = c; output = d }

pub def_same : (m n : SynthDef) → m.nodes ≡ n.nodes → m.edges ≡ n.edges → m.params ≡ n.params → m.output ≡ n.output → m ≡ n
unfolding def
def_same m n a b c d = let same : def m.nodes m.edges m.params m.output ≡ def n.nodes n.edges n.params n.output = cc in same

wish : Bool → SynthDef → NodeId → Float → ℕ → Wish
wish a b c d e = record { managed = a; def = b; bus = c; pan = d; rank = e }

pub wish_same : (m n : Wish) → m.managed ≡ n.managed → m.def ≡ n.def → m.bus ≡ n.bus → m.pan ≡ n.pan → m.rank ≡ n.rank → m ≡ n
unfolding wish
wish_same m n a b c d e = let same : wish m.managed m.def m.bus m.pan m.rank ≡ wish n.managed n.def n.bus n.pan n.rank = cc in same
