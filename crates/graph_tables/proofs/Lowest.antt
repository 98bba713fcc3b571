-- A search over the ports for one that nothing feeds: what `find` over a range says, said of the lowest of them.
use Rattle.std.proofs.Common.{ℕ, zero, suc, ◌+◌, ◌-◌, ◌≡◌, ◌≤◌, ◌<◌, List, true, false, sym, ap, subst, ◌∙◌, Option, None, Some, arith}
use Rattle.std.specs.Prelude.{MatchOption}
use Rattle.node.specs.declared.record.NodeId.{NodeId}
use Rattle.node.specs.declared.record.Edge.{Edge}
use Rattle.edges.specs.Ports.{lowest}
use Rattle.edges.specs.Wiring.{taken}
use Rattle.edges.proofs.Search.{lowest_found, lowest_pass, lowest_none}

module _ (es : List Edge) (n : NodeId) (top : ℕ) where
  passed : (i : ℕ) → i ≤ top → ((k : ℕ) → k < i → taken es n k ≡ true) → lowest (top - i) es n i ≡ lowest top es n 0
  passed zero h all = let none : top - 0 ≡ top = omega arith in ap (λ k. lowest k es n 0) none
  passed (suc i) h all =
      let one : i + 1 ≡ suc i = omega arith in
      subst (λ k. lowest (top - k) es n k ≡ lowest top es n 0) one (sym (lowest_pass es n top i (omega arith) (all i (omega arith))) ∙ passed i (omega arith) (λ k l. all k (omega arith)))

  pub first_free : (r : Option ℕ) → MatchOption r ((k : ℕ) → 0 ≤ k → k < top → taken es n k ≡ true) (λ i. (0 ≤ i) × (i < top) × (taken es n i ≡ false) × ((k : ℕ) → 0 ≤ k → k < i → taken es n k ≡ true))
      → r ≡ lowest top es n 0
  first_free None h = sym (lowest_none es n top top (omega arith)) ∙ passed top (omega arith) (λ k l. h k (omega arith) l)
  first_free (Some i) h = sym (lowest_found es n top i h.1 h.2) ∙ passed i (omega (arith, h.1)) (λ k l. h.3 k (omega arith) l)
