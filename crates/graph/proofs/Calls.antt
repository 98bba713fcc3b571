-- The laws of the refusals (SPEC 4), and when two graphs are the same.
use Prim.Native.Nat.{ℕ, ◌≤◌, ◌<◌}
use native.Mathlib.Omega.{arith}
use mathlib.Core.Path.{◌≡◌, refl, sym, ap, ◌∙◌}
use Rattle.std.specs.Prelude.{Option, None, Some, Ok}
use mathlib.Core.List.{List}
use mathlib.Core.Bool.{Bool, true, false}
use lib.ListN.{length}
use borrow.Author.Tests.{le-leb, lt-leb}
use Rattle.lists.proofs.Member.{none_some}
use Rattle.node.specs.declared.record.NodeId.{NodeId}
use Rattle.node.specs.declared.record.Node.{Node}
use Rattle.node.specs.declared.record.Edge.{Edge}
use Rattle.node.specs.declared.refusal.Refusal.{Refusal}
use Rattle.node.specs.declared.refusal.Refusal.TheVariants.{TableFull, IdsUsedUp}
use Rattle.graph.specs.View.{GraphView}
use Rattle.graph.specs.Refuse.{when, append_refusal}
use Rattle.graph.specs.Tables.{answer_of}

pub answer_done : (o : Option Refusal) → answer_of o ≡ Ok tt → o ≡ None
answer_done None e = refl
answer_done (Some y) e = absurd (let z : ◌≡◌ {A = ℕ} 0 1 = cc in omega arith)

pub when_on : (t : Bool) (r : Refusal) (rest : Option Refusal) → t ≡ true → when t r rest ≡ Some r
when_on t r rest e = rw e

pub when_off : (t : Bool) (r : Refusal) (rest : Option Refusal) → t ≡ false → when t r rest ≡ rest
when_off t r rest e = rw e

-- where nothing is refused the test failed, and what comes after it refuses nothing
pub when_none : (t : Bool) (r : Refusal) (rest : Option Refusal) → when t r rest ≡ None → (t ≡ false) × (rest ≡ None)
when_none true r rest e = absurd (none_some (sym e))
when_none false r rest e = (refl, e)

-- the refusals of appending
module _ (v : GraphView) where
  pub append_full : 512 ≤ length v.nodes → append_refusal v ≡ Some TableFull
  append_full h = when_on _ _ _ (le-leb _ _ h)

  pub append_spent : length v.nodes < 512 → 4294967296 ≤ v.next → append_refusal v ≡ Some IdsUsedUp
  append_spent h k = when_off _ _ _ (lt-leb _ _ h) ∙ when_on _ _ _ (le-leb _ _ k)

  pub append_fine : length v.nodes < 512 → v.next < 4294967296 → append_refusal v ≡ None
  append_fine h k = when_off _ _ _ (lt-leb _ _ h) ∙ when_off _ _ _ (lt-leb _ _ k)

abbrev made : List Node → List Edge → Option NodeId → Bool → List NodeId → ℕ → GraphView
made n e s p o k = record { nodes = n; edges = e; sink = s; prepared = p; order = o; next = k }

-- two graphs are the same if their parts are
pub same_view : (v w : GraphView) → v.nodes ≡ w.nodes → v.edges ≡ w.edges → v.sink ≡ w.sink → v.prepared ≡ w.prepared → v.order ≡ w.order → v.next ≡ w.next → v ≡ w
same_view v w a b c d e f =
    ap (λ x. made x v.edges v.sink v.prepared v.order v.next) a
    ∙ ap (λ x. made w.nodes x v.sink v.prepared v.order v.next) b
    ∙ ap (λ x. made w.nodes w.edges x v.prepared v.order v.next) c
    ∙ ap (λ x. made w.nodes w.edges w.sink x v.order v.next) d
    ∙ ap (λ x. made w.nodes w.edges w.sink w.prepared x v.next) e
    ∙ ap (λ x. made w.nodes w.edges w.sink w.prepared w.order x) f
