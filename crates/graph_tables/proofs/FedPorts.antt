-- The flags of the fed ports, in a walk from the last edge to the first.
use Prim.Native.Nat.{ℕ, ◌<◌, min}
use native.Mathlib.Omega.{arith}
use native.Mathlib.Decide.{ℕ_discrete}
use mathlib.Core.Path.{◌≡◌, refl, sym, ap, ◌∙◌}
use mathlib.Core.List.{List, [], ◌∷◌}
use mathlib.Core.Bool.{Bool, true, false, ◌&&◌, and-false}
use lib.Dec.{eqb}
use lib.ListN.{length, get_or, set, replicate, length-set, get_or-replicate}
use lib.Seq.{get_or-set_same, get_or-set_other}
use borrow.Author.Tests.{eq-eqb, ne_eqb}
use Rattle.std.specs.Prelude.{find, cond, is_some, Some}
use Rattle.node.specs.declared.record.NodeId.{NodeId}
use Rattle.node.specs.declared.record.Edge.{Edge}
use Rattle.edges.specs.Wiring.{ends_at, taken}
use Rattle.graph_tables.specs.FedPorts.{FedPorts}

-- no edge feeds a port
pub fed_start : (n : NodeId) → FedPorts (replicate 65 false) [] n
fed_start n = record { long = refl; are = λ p h. let inside : p < 65 = omega arith in get_or-replicate 65 p false false inside }

module _ (fed : List Bool) (e : Edge) (es : List Edge) (n : NodeId) (all : List Edge) (row : all ≡ e ∷ es) (inv : FedPorts fed es n) where
  -- an edge before the others that ends at another node
  pub fed_pass : (e.to.0 ≡ n.0 → ⊥) → FedPorts fed all n
  fed_pass o = rw row (record { long = inv.long; are = λ p h. inv.are p h ∙ ap (λ b. is_some (cond b (Some e) (find (ends_at n p) es))) (sym (off p)) })
    where
      off : (p : ℕ) → ends_at n p e ≡ false
      off p = ap (λ b. b && eqb e.port p) (ne_eqb e.to.0 n.0 o)

  -- one that ends at the node: its port is flagged
  pub fed_mark : e.to.0 ≡ n.0 → FedPorts (set fed (min e.port 64) true) all n
  fed_mark t = rw row (record { long = length-set fed (min e.port 64) true ∙ inv.long; are = λ p h. go p h (ℕ_discrete p e.port) })
    where
      long : length fed ≡ 65
      long = inv.long

      go : (p : ℕ) → p < 64 → Dec (p ≡ e.port) → get_or (set fed (min e.port 64) true) p false ≡ taken (e ∷ es) n p
      go p h (yes s) =
          let place : min e.port 64 ≡ p = omega arith in
          let inside : p < length fed = omega (arith, long) in
          let hit : ends_at n p e ≡ true = rw (eq-eqb _ _ t, eq-eqb e.port p (sym s)) in
          ap (λ k. get_or (set fed k true) p false) place ∙ get_or-set_same fed p true false inside ∙ ap (λ b. is_some (cond b (Some e) (find (ends_at n p) es))) (sym hit)
      go p h (no o) =
          let other : p ≡ min e.port 64 → ⊥ = λ q. let same : p ≡ e.port = omega arith in o same in
          let off : ends_at n p e ≡ false = ap (λ b. eqb e.to.0 n.0 && b) (ne_eqb e.port p (λ z. o (sym z))) ∙ and-false (eqb e.to.0 n.0) in
          get_or-set_other fed (min e.port 64) p true false other ∙ inv.are p h ∙ ap (λ b. is_some (cond b (Some e) (find (ends_at n p) es))) (sym off)
