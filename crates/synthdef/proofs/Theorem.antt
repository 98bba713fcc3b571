-- For an allowed definition the done plan answers silent exactly by the rule (SPEC 7.1, 7.3, 21.7): its answer meets
-- the rule at every node, and every answer that does is the same at every node of the definition, the output among
-- them.
use Prim.Native.Nat.{ℕ, zero, suc, ◌<◌}
use native.Mathlib.Omega.{arith}
use mathlib.Core.Path.{◌≡◌, refl, sym}
use mathlib.Core.Logic.{inl, inr}
use mathlib.Core.List.{List, [], ◌∷◌, map}
use Rattle.std.specs.Prelude.{Some, slice_get}
use mathlib.Core.Bool.{Bool, true}
use lib.ListN.{length, length-take}
use Rattle.lists.specs.Member.{In}
use Rattle.lists.proofs.Member.{in_of_map, some_inj, none_some}
use Rattle.rank.specs.Order.{upto, order}
use Rattle.rank.proofs.Cycle.{in_upto}
use Rattle.rank.proofs.Theorems.{distinct_upto, whole_sorted}
use Rattle.synthdef.specs.Tables.{node_rows, edge_rows}
use Rattle.synthdef.specs.Edges.{counted}
use Rattle.synthdef.specs.Limits.{arc_of, allowed, Within}
use Rattle.synthdef.specs.Silent.{Silence}
use Rattle.synthdef.specs.Plan.{plan_of, plan_silent}
use Rattle.synthdef.specs.declared.def.DefNode.{DefNode}
use Rattle.synthdef.specs.declared.def.DefEdge.{DefEdge}
use Rattle.synthdef.specs.declared.def.SynthDef.{SynthDef}
use Rattle.synthdef.proofs.EdgeLaws.{counted_in}
use Rattle.synthdef.proofs.Ranked.{place, before_lower}
use Rattle.synthdef.proofs.Answer.{answer, answer_meets, only_one}
use Rattle.synthdef.proofs.Within.{allowed_within, within_ordered}

-- the rule, for a definition
abbrev pub SilenceOf : SynthDef → List Bool → (ℕ → Bool) → Type 0
SilenceOf d done s = Silence (node_rows d.nodes) (counted (edge_rows d.edges)) done s

pub record Answers (d : SynthDef) (done : List Bool) : Type 0 where
  -- which nodes are silent
  pub silent : ℕ → Bool
  pub rule : SilenceOf d done silent
  pub only : (s : ℕ → Bool) → SilenceOf d done s → (i : ℕ) → i < length (node_rows d.nodes) → s i ≡ silent i
  pub plan : plan_silent (plan_of d) done ≡ silent d.output

in_at : (ns : List DefNode) (i : ℕ) (n : DefNode) → slice_get ns i ≡ Some n → In n ns
in_at [] i n h = absurd (none_some h)
in_at (x ∷ ns) zero n h = inl (sym (some_inj h))
in_at (x ∷ ns) (suc i) n h = inr (in_at ns i n h)

module _ (d : SynthDef) (h : allowed d ≡ true) (done : List Bool) where
  abbrev ns : List DefNode
  ns = node_rows d.nodes

  abbrev es : List DefEdge
  es = counted (edge_rows d.edges)

  abbrev line : List ℕ
  line = order (upto (length ns)) (map arc_of es)

  within : Within d
  within = allowed_within d h

  up : (e : DefEdge) → In e es → (e.from < length ns) × (place e.from line < place e.to line)
  up e i =
      let w = within.each_edge e (counted_in (edge_rows d.edges) e i) in
      let s = whole_sorted (upto (length ns)) (distinct_upto (length ns)) (map arc_of es) (within_ordered (length ns) (edge_rows d.edges) within.no_cycle) in
      let b = s.sources_first (arc_of e) (in_of_map arc_of es e i) (in_upto (length ns) e.from w.source) (in_upto (length ns) e.to w.target) in
      (w.source, before_lower e.from e.to line s.once b)

  meets : Silence ns es done (answer ns es done)
  meets =
      answer_meets ns es (simp length-take (omega (arith, within.node_count))) (λ i n m. (within.each_node n (in_at ns i n m)).ports) done

  pub plan_answers : Answers d done
  plan_answers =
      record {
        silent = answer ns es done;
        rule = meets;
        only = λ s hs. only_one ns es done (λ x. place x line) up s (answer ns es done) hs meets;
        plan = refl;
      }
