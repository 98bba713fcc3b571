-- The silence of a definition (SPEC 7.1, 7.3): the plan's answer meets the rule at every node, and since counted edges
-- have no cycle no other answer does.
use Prim.Native.Nat.{ℕ, zero, suc, ◌+◌, ◌≤◌, ◌<◌}
use native.Mathlib.Omega.{arith}
use native.Mathlib.Nat.{add-zero, add-suc}
use mathlib.Core.Path.{◌≡◌, refl, sym, ap, ◌∙◌, fun_ext}
use mathlib.Core.List.{List, [], ◌∷◌, ◌++◌}
use Rattle.std.specs.Prelude.{Option, None, Some, slice_get}
use mathlib.Core.Bool.{Bool, false, ◌||◌}
use lib.ListN.{length, get_or, length-append, length-replicate}
use Rattle.lists.specs.Member.{In}
use Rattle.lists.proofs.Member.{some_inj, none_some}
use Rattle.node.specs.Silence.{silence_of}
use Rattle.synthdef.specs.Edges.{source_at}
use Rattle.synthdef.specs.Silent.{Silence, silent_source, by_rule}
use Rattle.synthdef.specs.Plan.{step_of, steps_from, full_steps, silent_in, says, pass_from, settled}
use Rattle.synthdef.specs.declared.def.DefNode.{DefNode}
use Rattle.synthdef.specs.declared.def.DefEdge.{DefEdge}
use Rattle.synthdef.specs.declared.plan.DoneStep.{DoneStep}
use Rattle.synthdef.proofs.EdgeLaws.{source_edge}
use Rattle.synthdef.proofs.StepLaws.{step_says}
use Rattle.synthdef.proofs.PassLaws.{settled_stays}

-- ---- the rule holds at every node
pass_at : (sts : List DoneStep) (done s : List Bool) (k i : ℕ) (st : DoneStep) → slice_get sts i ≡ Some st
    → silent_in (pass_from sts done s k) i ≡ (get_or done (k + i) false || says st s)
pass_at [] done s k i st h = absurd (none_some h)
pass_at (x ∷ sts) done s k zero st h = rw (add-zero, some_inj h)
pass_at (x ∷ sts) done s k (suc i) st h = rw add-suc (pass_at sts done s (suc k) i st h ∙ ap (λ j. get_or done j false || says st s) (omega arith))

steps_at : (es : List DefEdge) (ns : List DefNode) (more : List DoneStep) (k i : ℕ) (n : DefNode) → slice_get ns i ≡ Some n
    → slice_get (steps_from es ns k ++ more) i ≡ Some (step_of es n (k + i))
steps_at es [] more k i n h = absurd (none_some h)
steps_at es (x ∷ ns) more k zero n h = rw (add-zero, some_inj h)
steps_at es (x ∷ ns) more k (suc i) n h = steps_at es ns more (suc k) i n h ∙ ap (λ j. Some (step_of es n j)) (omega arith)

pub length_steps : (es : List DefEdge) (ns : List DefNode) (k : ℕ) → length (steps_from es ns k) ≡ length ns
length_steps es [] k = refl
length_steps es (n ∷ ns) k = ap suc (length_steps es ns (suc k))

-- which nodes the plan says are silent
abbrev pub answer : List DefNode → List DefEdge → List Bool → ℕ → Bool
answer ns es done = silent_in (settled (full_steps (steps_from es ns 0)) done)

module _ (ns : List DefNode) (es : List DefEdge) (fit : length ns ≤ 24)
    (few : (i : ℕ) (n : DefNode) → slice_get ns i ≡ Some n → n.ports ≤ 8) (done : List Bool) where
  abbrev sts : List DoneStep
  sts = full_steps (steps_from es ns 0)

  long : length sts ≡ 24
  long = simp (length-append, length-replicate) (omega (arith, length_steps es ns 0))

  pub answer_meets : Silence ns es done (answer ns es done)
  answer_meets i n h =
      let s = settled sts done in
      let zero-add : 0 + i ≡ i = omega arith in
      ap (λ l. silent_in l i) (sym (settled_stays sts done long))
      ∙ pass_at sts done s 0 i (step_of es n (0 + i)) (steps_at es ns _ 0 i n h)
      ∙ ap (λ j. get_or done j false || says (step_of es n j) s) zero-add
      ∙ ap (λ b. get_or done i false || b) (step_says es n i (few i n h) s)

-- ---- no other answer meets it, where the edges go up in some ranking
pub there : (ns : List DefNode) (i : ℕ) → i < length ns → (n : DefNode) × (slice_get ns i ≡ Some n)
there [] i h = absurd (omega arith)
there (n ∷ ns) zero h = (n, refl)
there (n ∷ ns) (suc i) h = there ns i (omega arith)

module _ (ns : List DefNode) (es : List DefEdge) (done : List Bool) (rank : ℕ → ℕ)
    (up : (e : DefEdge) → In e es → (e.from < length ns) × (rank e.from < rank e.to))
    (s t : ℕ → Bool) (hs : Silence ns es done s) (ht : Silence ns es done t) where
  same_below : (k i : ℕ) (n : DefNode) → slice_get ns i ≡ Some n → rank i < k → s i ≡ t i
  same_below zero i n h r = absurd (omega arith)
  same_below (suc k) i n h r =
      hs i n h ∙ ap (λ b. get_or done i false || b) (ap (by_rule (silence_of n.kind) n) (fun_ext (source (same_below k)))) ∙ sym (ht i n h)
    where
      Lower : Type 0
      Lower = (j : ℕ) (m : DefNode) → slice_get ns j ≡ Some m → rank j < k → s j ≡ t j

      at : Lower → (p : ℕ) (o : Option ℕ) → source_at es i p ≡ o → silent_source s o ≡ silent_source t o
      at ih p None e = refl
      at ih p (Some j) e =
          let d = source_edge es i p j e in
          let u = up d.0 d.1 in
          let below : j < length ns = rw d.2 at u.0 in
          let lower : rank j < rank i = rw (d.2, d.3) at u.1 in
          let m = there ns j below in
          ih j m.0 m.1 (omega arith)

      source : Lower → (p : ℕ) → silent_source s (source_at es i p) ≡ silent_source t (source_at es i p)
      source ih p = at ih p (source_at es i p) refl

  pub only_one : (i : ℕ) → i < length ns → s i ≡ t i
  only_one i h = let m = there ns i h in same_below (suc (rank i)) i m.0 m.1 (omega arith)
