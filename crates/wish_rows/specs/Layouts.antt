-- A node, an edge and a parameter of a definition are read from their own words alone: each impl of `Layout` has to show this. Nothing here has
-- to be believed.
use Rattle.std.specs.Prelude.{ℕ, ◌+◌, ◌/◌, ◌%◌, ◌≡◌, Bool, get_or}
use Rattle.std.proofs.Common.{ap, arith}
use Rattle.node.specs.declared.name.Name.{Name}
use Rattle.synthdef.specs.declared.def.DefNode.{DefNode}
use Rattle.synthdef.specs.declared.def.DefEdge.{DefEdge}
use Rattle.words.specs.Fields.{is_set, name_at}
use Rattle.voice_rows.specs.Filled.{Local}
use Rattle.voice_rows.specs.Layouts.{param_same, first, name_local}
use Rattle.wish_rows.specs.Rows.{def_node_at, def_edge_at, param_at}

node : Name → ℕ → ℕ → Bool → Bool → ℕ → ℕ → ℕ → DefNode
node a b c d e f g h =
    record { kind = a; ports = b; required = c; takes_values = d; takes_glides = e; in_port = f; level_port = g; amp_port = h }

pub node_same : (m n : DefNode) → m.kind ≡ n.kind → m.ports ≡ n.ports → m.required ≡ n.required → m.takes_values ≡ n.takes_values
    → m.takes_glides ≡ n.takes_glides → m.in_port ≡ n.in_port → m.level_port ≡ n.level_port → m.amp_port ≡ n.amp_port → m ≡ n
unfolding node
node_same m n a b c d e f g h =
    let same : node m.kind m.ports m.required m.takes_values m.takes_glides m.in_port m.level_port m.amp_port
    ≡ node n.kind n.ports n.required n.takes_values n.takes_glides n.in_port n.level_port n.amp_port = cc in
    same

edge : ℕ → ℕ → ℕ → DefEdge
edge a b c = record { from = a; to = b; port = c }

-- ---- a node is read from six words, an edge from one, a parameter from five
edge_from : ℕ → DefEdge
edge_from x = edge (x % 256) (x / 256 % 256) (x / 65536 % 256)

pub node_local : Local 6 def_node_at
node_local c e a b h =
    let kind : name_at c a ≡ name_at e b = name_local c e a b (λ j l. h j (omega arith)) in
    let x : get_or c (a + 4) 0 ≡ get_or e (b + 4) 0 = h 4 (omega arith) in
    let y : get_or c (a + 5) 0 ≡ get_or e (b + 5) 0 = h 5 (omega arith) in
    node_same (def_node_at c a) (def_node_at e b) kind (ap (λ k. k / 256 % 256) x) (ap (λ k. k / 65536 % 256) x) (ap (λ k. is_set (k / 16777216 % 256)) x)
    (ap (λ k. is_set (k / 16777216 % 256)) y) (ap (λ k. k % 256) y) (ap (λ k. k / 256 % 256) y) (ap (λ k. k / 65536 % 256) y)

pub edge_local : Local 1 def_edge_at
unfolding edge_from edge
edge_local c e a b h =
    let e0 : get_or c a 0 ≡ get_or e b 0 = first 1 c e a b h (omega arith) in
    let same : edge_from (get_or c a 0) ≡ edge_from (get_or e b 0) = cc in
    same

pub param_local : Local 5 param_at
param_local c e a b h =
    let last : get_or c (a + 4) 0 ≡ get_or e (b + 4) 0 = h 4 (omega arith) in
    param_same (param_at c a) (param_at e b) (name_local c e a b h) (ap (λ x. x / 256 % 256) last)
