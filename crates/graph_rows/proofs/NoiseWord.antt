-- The word of the noise sequence, stored within a node's row.
use Prim.Native.Nat.{ℕ, ◌/◌, ◌≤◌, ◌<◌}
use native.Mathlib.Omega.{arith}
use mathlib.Core.Path.{◌≡◌, refl, sym, ap, ◌∙◌}
use mathlib.Core.Bool.{Bool, true, false}
use mathlib.Core.List.{List, [], ◌∷◌}
use lib.Dec.{ltb}
use lib.ListN.{length, get_or, set}
use lib.Seq.{sets}
use borrow.Author.Tests.{ltb-true, ltb-false}
use Rattle.node.specs.Node.{with_noise}
use Rattle.words.specs.Rows.{row_at, fields_put}
use Rattle.words.proofs.Words.{spelled}
use Rattle.words.proofs.Rows.{row_is, rows_kept, at_long}
use Rattle.words.proofs.Within.{put_past, fields_is}
use Rattle.graph_rows.specs.Node.{node_of, nodes_in}

noise_set : (r : List ℕ) (k : ℕ) → length r ≡ 22 → node_of (sets r 21 (k ∷ [])) ≡ with_noise k (node_of r)
unfolding node_of
noise_set r k h = ap (λ l. node_of (sets l 21 (k ∷ []))) (sym (spelled 22 r h)) ∙ ap (λ l. with_noise k (node_of l)) (spelled 22 r h)

-- past the end nothing is stored
pub noise_put : (c : List ℕ) (k i : ℕ) → nodes_in (fields_put 22 i 21 (k ∷ []) c) ≡ set (nodes_in c) i (with_noise k (get_or (nodes_in c) i (node_of [])))
noise_put c k i = go (ltb i (length c / 22)) refl
  where
    go : (t : Bool) → ltb i (length c / 22) ≡ t → nodes_in (fields_put 22 i 21 (k ∷ []) c) ≡ set (nodes_in c) i (with_noise k (get_or (nodes_in c) i (node_of [])))
    go true t =
        let inside : i < length c / 22 = ltb-true i (length c / 22) t in
        fields_is 22 node_of c (k ∷ []) i 21 (omega arith) (omega arith)
        ∙ ap (set (nodes_in c) i) (noise_set (row_at 22 i c) k (at_long 22 i c inside) ∙ ap (with_noise k) (sym (row_is 22 node_of c i)))
    go false t =
        let past : length c / 22 ≤ i = ltb-false i (length c / 22) t in
        ap nodes_in (sym (put_past 22 i 21 (k ∷ []) c past)) ∙ rows_kept 22 node_of c i (with_noise k (get_or (nodes_in c) i (node_of []))) past
