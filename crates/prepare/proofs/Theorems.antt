-- What prepare's answers mean (SPEC 5.2, 5.3, 21.7): 13 exactly where a required port of a live node is unconnected, 14
-- exactly where it is not so and there is a cycle among the live nodes; and an order that is accepted has every live
-- node once, each source before its target.
use Rattle.std.specs.Prelude.{Result, Err, Ok}
use Rattle.node.specs.declared.refusal.Refusal.{Refusal}
use Prim.Native.Nat.{ℕ}
use native.Mathlib.Omega.{arith}
use mathlib.Core.Path.{◌≡◌, refl, ap, ◌∙◌}
use mathlib.Core.List.{List, [], ◌∷◌, map}
use mathlib.Core.Bool.{Bool, true, false, cond, not}
use Rattle.node.specs.declared.record.Node.{Node}
use Rattle.node.specs.declared.record.NodeId.{NodeId}
use Rattle.node.specs.declared.record.Edge.{Edge}
use Rattle.node.specs.declared.refusal.Refusal.TheVariants.{RequiredPort, Cycle}
use Rattle.rank.specs.Order.{Arc, order, whole}
use Rattle.rank.specs.Cycle.{Cyclic, Acyclic, Sorted}
use Rattle.rank.proofs.Theorems.{short_cyclic, cyclic_short, whole_sorted, whole_acyclic}
use Rattle.prepare.specs.Live.{live_ids, arc_of, as_id, processing_order}
use Rattle.prepare.specs.Required.{lacking}
use Rattle.prepare.specs.Prepare.{Outcome, refused, prepare}
use Rattle.prepare.proofs.Rises.{live_distinct}

-- the id's number
abbrev pub number : NodeId → ℕ
number i = i.0

numbers : (l : List ℕ) → map number (map as_id l) ≡ l
numbers [] = refl
numbers (x ∷ l) = ap (λ (z : List ℕ). x ∷ z) (numbers l)

module _ (nodes : List Node) (edges : List Edge) where
  abbrev es : List Arc
  es = map arc_of edges

  abbrev ready : Outcome
  ready = record { answer = Ok tt; order = processing_order nodes edges }

  -- which tests led to an answer
  module _ (a : Result (Unit {0}) Refusal) (h : (prepare nodes edges).answer ≡ a) where
    by_13 : a ≡ Err RequiredPort → lacking nodes edges ≡ true
    unfolding prepare
    by_13 e = go (lacking nodes edges) (whole (live_ids nodes) es) (h ∙ e)
      where
        go : (b w : Bool) → (cond b (refused RequiredPort) (cond (not w) (refused Cycle) ready)).answer ≡ Err RequiredPort → b ≡ true
        go true w p = refl
        go false true p = let z : ◌≡◌ {A = ℕ} 0 1 = cc in absurd (omega arith)
        go false false p = let z : ◌≡◌ {A = ℕ} 0 1 = cc in absurd (omega arith)

    by_14 : a ≡ Err Cycle → (lacking nodes edges ≡ false) × (whole (live_ids nodes) es ≡ false)
    unfolding prepare
    by_14 e = go (lacking nodes edges) (whole (live_ids nodes) es) (h ∙ e)
      where
        go : (b w : Bool) → (cond b (refused RequiredPort) (cond (not w) (refused Cycle) ready)).answer ≡ Err Cycle → (b ≡ false) × (w ≡ false)
        go true w p = let z : ◌≡◌ {A = ℕ} 0 1 = cc in absurd (omega arith)
        go false true p = let z : ◌≡◌ {A = ℕ} 0 1 = cc in absurd (omega arith)
        go false false p = (refl, refl)

    by_ready : a ≡ Ok tt → (lacking nodes edges ≡ false) × (whole (live_ids nodes) es ≡ true)
    unfolding prepare
    by_ready e = go (lacking nodes edges) (whole (live_ids nodes) es) (h ∙ e)
      where
        go : (b w : Bool) → (cond b (refused RequiredPort) (cond (not w) (refused Cycle) ready)).answer ≡ Ok tt → (b ≡ false) × (w ≡ true)
        go true w p = let z : ◌≡◌ {A = ℕ} 0 1 = cc in absurd (omega arith)
        go false true p = (refl, refl)
        go false false p = let z : ◌≡◌ {A = ℕ} 0 1 = cc in absurd (omega arith)

  -- ---- 13
  pub required_13 : lacking nodes edges ≡ true → prepare nodes edges ≡ refused RequiredPort
  unfolding prepare
  required_13 h = rw h

  pub only_required_13 : (prepare nodes edges).answer ≡ Err RequiredPort → lacking nodes edges ≡ true
  only_required_13 h = by_13 (Err RequiredPort) h refl

  -- ---- 14
  pub cycle_14 : lacking nodes edges ≡ false → Cyclic (live_ids nodes) es → prepare nodes edges ≡ refused Cycle
  unfolding prepare
  cycle_14 h c = rw (h, cyclic_short (live_ids nodes) (live_distinct nodes) es c)

  pub only_cycle_14 : (prepare nodes edges).answer ≡ Err Cycle → (lacking nodes edges ≡ false) × Cyclic (live_ids nodes) es
  only_cycle_14 h = let t = by_14 (Err Cycle) h refl in (t.0, short_cyclic (live_ids nodes) (live_distinct nodes) es t.1)

  -- ---- the order
  pub ready_sorted : (prepare nodes edges).answer ≡ Ok tt → Sorted (live_ids nodes) es (map number (prepare nodes edges).order)
  unfolding prepare processing_order
  ready_sorted h =
      let t = by_ready (Ok tt) h refl in
      rw (t.0, t.1, numbers (order (live_ids nodes) es)) (whole_sorted (live_ids nodes) (live_distinct nodes) es t.1)

  pub ready_acyclic : (prepare nodes edges).answer ≡ Ok tt → Acyclic (live_ids nodes) es
  ready_acyclic h = whole_acyclic (live_ids nodes) (live_distinct nodes) es (by_ready (Ok tt) h refl).1
