-- A row whose id is above those of all rows before it is the first of its id.
use Prim.Native.Nat.{ℕ, zero, suc, ◌/◌, ◌≤◌, ◌<◌, min}
use native.Mathlib.Omega.{arith}
use native.Mathlib.Numerals.{add-one}
use mathlib.Core.Path.{◌≡◌, subst}
use mathlib.Core.List.{List, []}
use Rattle.std.specs.Prelude.{Some}
use lib.ListN.{length, take, get_or}
use borrow.Author.Tests.{eq-eqb, ne_eqb}
use Rattle.node.specs.declared.record.NodeId.{NodeId}
use Rattle.graph.specs.Node.{is_node, node_at}
use Rattle.graph_rows.specs.Node.{node_of, nodes_in}
use Rattle.words.proofs.InWords.{SeekingIn, seek_start, seek_next, seek_hit}
use Rattle.voice_rows.specs.Levels.{id_in, LeftMax}

module _ (c : List ℕ) (count n : ℕ) (e : n ≡ min count (length c / 22)) (id : NodeId) where
  -- rows whose ids are below are passed
  passed : (k : ℕ) → k ≤ n → ((j : ℕ) → j < k → id_in c j < id.0) → SeekingIn 22 node_of (is_node id) c count n k
  passed zero h low = seek_start 22 node_of (is_node id) c count n e
  passed (suc k) h low =
      let under : k < n = omega arith in
      let lower : id_in c k < id.0 = low k (omega arith) in
      subst (SeekingIn 22 node_of (is_node id) c count n) (add-one k)
      (seek_next 22 node_of (is_node id) c count n e k under (passed k (omega arith) (λ j b. low j (omega arith))) (ne_eqb (id_in c k) id.0 (λ q. omega (arith, lower, q))))

  pub leftmax_found : (k : ℕ) → k < n → LeftMax c k → id_in c k ≡ id.0 → Some (get_or (nodes_in c) k (node_of [])) ≡ node_at (take count (nodes_in c)) id
  leftmax_found k h inv is =
      seek_hit 22 node_of (is_node id) c count n e k h
      (passed k (omega arith) (λ j b. subst (λ x. id_in c j < x) is (inv j b)))
      (eq-eqb _ _ is)
