-- Asked of what was read of a node, or of the node: the same.
use Prim.Native.Nat.{ℕ}
use mathlib.Core.Path.{◌≡◌, refl}
use Rattle.std.specs.Prelude.{Option, None, Some}
use mathlib.Core.Bool.{Bool}
use Rattle.node.specs.declared.record.Node.{Node}
use Rattle.graph.specs.Refuse.{host_test, port_test, wire_test}
use Rattle.graph_rows.specs.Node.{brief_of}
use Rattle.graph_tables.specs.Brief.{host_brief, port_brief, wire_brief}

pub host_brief_lem : (n : Option Node) → host_brief (brief_of n) ≡ host_test n
host_brief_lem None = refl
host_brief_lem (Some n) = refl

pub port_brief_lem : (n : Option Node) (p : ℕ) → port_brief (brief_of n) p ≡ port_test n p
port_brief_lem None p = refl
port_brief_lem (Some n) p = refl

pub wire_brief_lem : (a b : Option Node) (p : ℕ) (full : Bool) → wire_brief (brief_of a) (brief_of b) p full ≡ wire_test a b p full
wire_brief_lem None None p full = refl
wire_brief_lem None (Some b) p full = refl
wire_brief_lem (Some a) None p full = refl
wire_brief_lem (Some a) (Some b) p full = refl
