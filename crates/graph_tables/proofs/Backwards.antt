-- A walk over the first `count` edges of the words t, from the last to the first: m edges in all, and i of them still to come.
use Prim.Native.Nat.{ℕ, ◌-◌, ◌/◌, ◌≤◌, ◌<◌, min}
use native.Mathlib.Omega.{arith}
use mathlib.Core.Path.{◌≡◌, ap, ◌∙◌}
use mathlib.Core.List.{List, [], ◌∷◌}
use lib.ListN.{length, take, drop, get_or, length-take, drop_of_length-le}
use Rattle.node.specs.declared.record.Edge.{Edge}
use Rattle.words.proofs.Rows.{rows_long}
use Rattle.words.proofs.InWords.{take_count}
use Rattle.edges.proofs.Search.{row_before}
use Rattle.graph_rows.specs.Edge.{edge_of, edges_in}

-- the edge e stands right before those that were passed
abbrev pub Precedes : List ℕ → ℕ → ℕ → Edge → Type 0
Precedes t m i e = drop (i - 1) (take m (edges_in t)) ≡ e ∷ drop i (take m (edges_in t))

module _ (t : List ℕ) (count m : ℕ) (e : m ≡ min count (length t / 3)) where
  pub none_passed : drop m (take m (edges_in t)) ≡ []
  none_passed = let short : length (take m (edges_in t)) ≤ m = omega (arith, length-take m (edges_in t)) in drop_of_length-le (take m (edges_in t)) short

  pub next_edge : (i : ℕ) → 0 < i → i ≤ m → Precedes t m i (get_or (edges_in t) (i - 1) (edge_of []))
  next_edge i h k = let inside : m ≤ length (edges_in t) = omega (arith, rows_long 3 edge_of t) in row_before (edges_in t) m i (edge_of []) h k inside

  pub all_passed : (i : ℕ) → i ≡ 0 → drop i (take m (edges_in t)) ≡ take count (edges_in t)
  all_passed i z = ap (λ n. drop n (take m (edges_in t))) z ∙ take_count 3 edge_of t count m e
