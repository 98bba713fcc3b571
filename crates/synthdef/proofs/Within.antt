-- `allowed` answers yes exactly where a definition keeps the limits that `Within` states (SPEC 6.1, 21.7).
use Prim.Native.Nat.{ℕ, ◌≤◌, ◌<◌}
use mathlib.Core.Path.{◌≡◌, refl}
use mathlib.Core.Logic.{◌⊎◌, inl, inr}
use mathlib.Core.List.{List, map}
use mathlib.Core.Bool.{Bool, true, false, ◌||◌}
use lib.ListN.{length}
use lib.Dec.{leb, ltb, eqb}
use borrow.Author.Tests.{le-leb, leb-true, lt-ltb, ltb-true, eq-eqb, eqb-true}
use Rattle.std.proofs.lemmas.Bool.{and_from, and_parts}
use Rattle.node.specs.Name.{named}
use Rattle.node.specs.declared.name.Name.{Name}
use Rattle.rank.specs.Order.{upto}
use Rattle.rank.specs.Cycle.{Acyclic}
use Rattle.rank.proofs.Theorems.{distinct_upto, whole_acyclic, short_cyclic}
use Rattle.synthdef.specs.Tables.{node_rows, edge_rows, param_rows}
use Rattle.synthdef.specs.Edges.{counted}
use Rattle.synthdef.specs.Limits.{port_given, node_allowed, edge_allowed, param_allowed, arc_of, ordered, allowed, NodeWithin, EdgeWithin, ParamWithin, Within}
use Rattle.synthdef.specs.declared.def.DefNode.{DefNode}
use Rattle.synthdef.specs.declared.def.DefEdge.{DefEdge}
use Rattle.synthdef.specs.declared.def.Param.{Param}
use Rattle.synthdef.specs.declared.def.SynthDef.{SynthDef}
use Rattle.synthdef.proofs.Rows.{every_in, in_every}

-- ---- a name, and a port given by name
named_within : (n : Name) → named n ≡ true → (1 ≤ n.len) × (n.len ≤ 16)
named_within n h =
    let a = and_parts (leb 1 n.len) (leb n.len 16) h in
    (leb-true _ _ a.0, leb-true _ _ a.1)

within_named : (n : Name) → (1 ≤ n.len) × (n.len ≤ 16) → named n ≡ true
within_named n h = and_from _ _ (le-leb _ _ h.0) (le-leb _ _ h.1)

given_within : (ports p : ℕ) → port_given ports p ≡ true → (p ≡ 255) ⊎ (p < ports)
given_within ports p h = go (eqb p 255) refl h
  where
    go : (b : Bool) → eqb p 255 ≡ b → (b || ltb p ports) ≡ true → (p ≡ 255) ⊎ (p < ports)
    go true e k = inl (eqb-true p 255 e)
    go false e k = inr (ltb-true p ports k)

within_given : (ports p : ℕ) → (p ≡ 255) ⊎ (p < ports) → port_given ports p ≡ true
within_given ports p (inl e) = rw (eq-eqb p 255 e)
within_given ports p (inr h) = go (eqb p 255)
  where
    go : (b : Bool) → (b || ltb p ports) ≡ true
    go true = refl
    go false = lt-ltb p ports h

-- ---- a node, an edge, a parameter
node_within : (n : DefNode) → node_allowed n ≡ true → NodeWithin n
node_within n h =
    let a = and_parts _ _ h in
    let b = and_parts _ _ a.1 in
    let c = and_parts _ _ b.1 in
    let d = and_parts _ _ c.1 in
    let e = and_parts _ _ d.1 in
    record {
      kind = named_within n.kind a.0;
      ports = leb-true _ _ b.0;
      required = ltb-true _ _ c.0;
      in_port = given_within n.ports n.in_port d.0;
      level_port = given_within n.ports n.level_port e.0;
      amp_port = given_within n.ports n.amp_port e.1;
    }

within_node : (n : DefNode) → NodeWithin n → node_allowed n ≡ true
within_node n w =
    and_from _ _ (within_named n.kind w.kind)
    (and_from _ _ (le-leb _ _ w.ports)
    (and_from _ _ (lt-ltb _ _ w.required)
    (and_from _ _ (within_given n.ports n.in_port w.in_port)
    (and_from _ _ (within_given n.ports n.level_port w.level_port) (within_given n.ports n.amp_port w.amp_port)))))

edge_within : (ns : List DefNode) (e : DefEdge) → edge_allowed ns e ≡ true → EdgeWithin ns e
edge_within ns e h =
    let a = and_parts _ _ h in
    let b = and_parts _ _ a.1 in
    record { source = ltb-true _ _ a.0; target = ltb-true _ _ b.0; port = ltb-true _ _ b.1 }

within_edge : (ns : List DefNode) (e : DefEdge) → EdgeWithin ns e → edge_allowed ns e ≡ true
within_edge ns e w = and_from _ _ (lt-ltb _ _ w.source) (and_from _ _ (lt-ltb _ _ w.target) (lt-ltb _ _ w.port))

param_within : (n : ℕ) (p : Param) → param_allowed n p ≡ true → ParamWithin n p
param_within n p h =
    let a = and_parts (named p.name) (ltb p.node n) h in
    record { name = named_within p.name a.0; node = ltb-true _ _ a.1 }

within_param : (n : ℕ) (p : Param) → ParamWithin n p → param_allowed n p ≡ true
within_param n p w = and_from _ _ (within_named p.name w.name) (lt-ltb _ _ w.node)

-- ---- the counted edges
pub within_ordered : (n : ℕ) (es : List DefEdge) → Acyclic (upto n) (map arc_of (counted es)) → ordered n es ≡ true
within_ordered n es a = go (ordered n es) refl
  where
    go : (b : Bool) → ordered n es ≡ b → b ≡ true
    go true e = refl
    go false e = absurd (a (short_cyclic (upto n) (distinct_upto n) (map arc_of (counted es)) e))

-- ---- a definition
pub allowed_within : (d : SynthDef) → allowed d ≡ true → Within d
allowed_within d h =
    let a = and_parts _ _ h in
    let b = and_parts _ _ a.1 in
    let c = and_parts _ _ b.1 in
    let p = and_parts _ _ c.1 in
    let o = and_parts _ _ p.1 in
    let k = and_parts _ _ a.0 in
    let l = and_parts _ _ k.1 in
    let m = and_parts _ _ l.1 in
    let ns = node_rows d.nodes in
    record {
      some_node = leb-true _ _ k.0;
      node_count = leb-true _ _ l.0;
      edge_count = leb-true _ _ m.0;
      param_count = leb-true _ _ m.1;
      each_node = λ n i. node_within n (every_in node_allowed ns n b.0 i);
      each_edge = λ e i. edge_within ns e (every_in (edge_allowed ns) (edge_rows d.edges) e c.0 i);
      each_param = λ q i. param_within (length ns) q (every_in (param_allowed (length ns)) (param_rows d.params) q p.0 i);
      output = ltb-true _ _ o.0;
      no_cycle = whole_acyclic (upto (length ns)) (distinct_upto (length ns)) (map arc_of (counted (edge_rows d.edges))) o.1;
    }

pub within_allowed : (d : SynthDef) → Within d → allowed d ≡ true
within_allowed d w =
    let ns = node_rows d.nodes in
    and_from _ _ (and_from _ _ (le-leb _ _ w.some_node) (and_from _ _ (le-leb _ _ w.node_count) (and_from _ _ (le-leb _ _ w.edge_count) (le-leb _ _ w.param_count))))
    (and_from _ _ (in_every node_allowed ns (λ n i. within_node n (w.each_node n i)))
    (and_from _ _ (in_every (edge_allowed ns) (edge_rows d.edges) (λ e i. within_edge ns e (w.each_edge e i)))
    (and_from _ _ (in_every (param_allowed (length ns)) (param_rows d.params) (λ q i. within_param (length ns) q (w.each_param q i)))
    (and_from _ _ (lt-ltb _ _ w.output) (within_ordered (length ns) (edge_rows d.edges) w.no_cycle)))))
