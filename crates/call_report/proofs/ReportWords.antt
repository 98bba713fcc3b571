-- The two words of a report, stored within a node's row.
use Prim.Native.Nat.{ℕ, ◌/◌, ◌≤◌, ◌<◌}
use native.Mathlib.Omega.{arith}
use mathlib.Core.Path.{◌≡◌, refl, sym, ap, ◌∙◌}
use mathlib.Core.Bool.{Bool, true, false}
use mathlib.Core.List.{List, [], ◌∷◌}
use lib.Dec.{ltb}
use lib.Ieee.{Float}
use lib.ListN.{length, get_or, set}
use lib.Seq.{sets}
use borrow.Author.Tests.{ltb-true, ltb-false}
use Rattle.node.specs.Node.{reported}
use Rattle.words.specs.Fields.{is_set, float_from}
use Rattle.words.specs.Rows.{row_at}
use Rattle.words.proofs.Words.{spell, spelled}
use Rattle.words.proofs.Rows.{row_is, rows_kept, at_long}
use Rattle.words.specs.Rows.{fields_put}
use Rattle.words.proofs.Within.{put_past, fields_is}
use Rattle.graph_rows.specs.Node.{node_of, nodes_in}

report_set : (r : List ℕ) (a b : ℕ) (done : Bool) (level : Float) → length r ≡ 22 → is_set a ≡ done → float_from b ≡ level → node_of (sets r 13 (a ∷ b ∷ [])) ≡ reported level done (node_of r)
unfolding node_of
report_set r a b done level h d e =
    ap (λ l. node_of (sets l 13 (a ∷ b ∷ []))) (sym (spelled 22 r h))
    ∙ ap (λ x. reported (float_from b) x (node_of (spell 0 22 r))) d
    ∙ ap (λ x. reported x done (node_of (spell 0 22 r))) e
    ∙ ap (λ l. reported level done (node_of l)) (spelled 22 r h)

-- past the end nothing is stored
pub report_put : (c : List ℕ) (a b i : ℕ) (done : Bool) (level : Float) → is_set a ≡ done → float_from b ≡ level
    → nodes_in (fields_put 22 i 13 (a ∷ b ∷ []) c) ≡ set (nodes_in c) i (reported level done (get_or (nodes_in c) i (node_of [])))
report_put c a b i done level d e = go (ltb i (length c / 22)) refl
  where
    go : (t : Bool) → ltb i (length c / 22) ≡ t → nodes_in (fields_put 22 i 13 (a ∷ b ∷ []) c) ≡ set (nodes_in c) i (reported level done (get_or (nodes_in c) i (node_of [])))
    go true t =
        let inside : i < length c / 22 = ltb-true i (length c / 22) t in
        fields_is 22 node_of c (a ∷ b ∷ []) i 13 (omega arith) (omega arith)
        ∙ ap (set (nodes_in c) i) (report_set (row_at 22 i c) a b done level (at_long 22 i c inside) d e ∙ ap (reported level done) (sym (row_is 22 node_of c i)))
    go false t =
        let past : length c / 22 ≤ i = ltb-false i (length c / 22) t in
        ap nodes_in (sym (put_past 22 i 13 (a ∷ b ∷ []) c past)) ∙ rows_kept 22 node_of c i (reported level done (get_or (nodes_in c) i (node_of []))) past
