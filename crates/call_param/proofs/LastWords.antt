-- The six words of a node's last order, stored within its row.
use Prim.Native.Nat.{ℕ, ◌+◌, ◌/◌, ◌≤◌, ◌<◌}
use native.Mathlib.Omega.{arith}
use mathlib.Core.Path.{◌≡◌, refl, sym, ap, ◌∙◌}
use mathlib.Core.Bool.{Bool, true, false}
use mathlib.Core.List.{List, []}
use lib.Dec.{ltb}
use lib.ListN.{length, get_or, set}
use lib.Seq.{sets}
use borrow.Author.Tests.{ltb-true, ltb-false}
use Rattle.node.specs.declared.order.LastOrder.{LastOrder}
use Rattle.words.specs.Fields.{last_at}
use Rattle.words.specs.Rows.{row_at, fields_put}
use Rattle.words.proofs.Words.{spell, spelled}
use Rattle.words.proofs.Rows.{row_is, rows_kept, at_long}
use Rattle.words.proofs.Within.{put_past, fields_is}
use Rattle.graph_rows.specs.Node.{node_of, nodes_in}
use Rattle.model.specs.Order.{with_last}

last_set : (r ws : List ℕ) (o : LastOrder) → length r ≡ 22 → length ws ≡ 6 → last_at ws 0 ≡ o → node_of (sets r 15 ws) ≡ with_last o (node_of r)
unfolding node_of
last_set r ws o h k e =
    ap (λ l. node_of (sets l 15 ws)) (sym (spelled 22 r h))
    ∙ ap (λ l. node_of (sets r22 15 l)) (sym (spelled 6 ws k))
    ∙ ap (λ x. with_last x (node_of r22)) (ap (λ l. last_at l 0) (spelled 6 ws k) ∙ e)
    ∙ ap (λ l. with_last o (node_of l)) (spelled 22 r h)
  where
    r22 : List ℕ
    r22 = spell 0 22 r

-- past the end nothing is stored
pub last_put : (c ws : List ℕ) (i : ℕ) (o : LastOrder) → length ws ≡ 6 → last_at ws 0 ≡ o
    → nodes_in (fields_put 22 i 15 ws c) ≡ set (nodes_in c) i (with_last o (get_or (nodes_in c) i (node_of [])))
last_put c ws i o k e = go (ltb i (length c / 22)) refl
  where
    go : (b : Bool) → ltb i (length c / 22) ≡ b → nodes_in (fields_put 22 i 15 ws c) ≡ set (nodes_in c) i (with_last o (get_or (nodes_in c) i (node_of [])))
    go true t =
        let inside : i < length c / 22 = ltb-true i (length c / 22) t in
        let fit : 15 + length ws ≤ 22 = omega arith in
        fields_is 22 node_of c ws i 15 (omega arith) fit
        ∙ ap (set (nodes_in c) i) (last_set (row_at 22 i c) ws o (at_long 22 i c inside) k e ∙ ap (with_last o) (sym (row_is 22 node_of c i)))
    go false t =
        let past : length c / 22 ≤ i = ltb-false i (length c / 22) t in
        ap nodes_in (sym (put_past 22 i 15 ws c past)) ∙ rows_kept 22 node_of c i (with_last o (get_or (nodes_in c) i (node_of []))) past
