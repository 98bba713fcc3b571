-- Prepare's three answers, from what its tests found.
use Rattle.std.specs.Prelude.{Err, Ok}
use Prim.Native.Nat.{ℕ, ◌≤◌, min}
use native.Mathlib.Omega.{arith}
use mathlib.Core.Path.{◌≡◌, refl, sym, ap, ◌∙◌, subst}
use mathlib.Core.List.{List, map}
use mathlib.Core.Bool.{Bool, true, false}
use lib.ListN.{length, take, get_or, length-take}
use lib.Seq.{length-take-le, take-take}
use Rattle.std.proofs.lemmas.List.{take-map}
use Rattle.node.specs.declared.record.Node.{Node}
use Rattle.node.specs.declared.record.Edge.{Edge}
use Rattle.node.specs.declared.refusal.Refusal.TheVariants.{RequiredPort, Cycle}
use Rattle.words.specs.Place.{Holds}
use Rattle.words.proofs.Rows.{rows_long}
use Rattle.words.proofs.InWords.{take_count}
use Rattle.rank.specs.Order.{whole, upto, arcs}
use Rattle.rank.specs.Parts.{Ranked}
use Rattle.rank.specs.declared.Ranking.{Ranking}
use Rattle.graph_rows.specs.Node.{nodes_in}
use Rattle.graph_rows.specs.Edge.{edge_of, edges_in}
use Rattle.prepare.specs.Live.{live_ids, arc_of, as_id, processing_order}
use Rattle.prepare.specs.Required.{lacking}
use Rattle.prepare.specs.Prepare.{prepare}
use Rattle.prepare.specs.Parts.{Lived, Ends, plugs, Plugged, RowsIn, rows_lack}
use Rattle.prepare.proofs.Ports.{plugs_take}
use Rattle.prepare.proofs.Graph.{many_live, rows_in, whole_is, ordered, many_ordered, lacking_is}
use Rattle.prepare.proofs.Rises.{live_few}
use Rattle.order_table.specs.Prepares.{ids_in, Prepares, Lacks}

module _ (nodes : List Node) (edges : List Edge) (old : List ℕ) where
  pub refused_13 : lacking nodes edges ≡ true → Prepares nodes edges old old (Err RequiredPort)
  unfolding prepare
  refused_13 h = record { answer = rw h; order = rw h (record { is = refl; many = refl }); kept = λ x e. refl }

  pub refused_14 : lacking nodes edges ≡ false → whole (live_ids nodes) (map arc_of edges) ≡ false → Prepares nodes edges old old (Err Cycle)
  unfolding prepare
  refused_14 h w = record { answer = rw (h, w); order = rw (h, w) (record { is = refl; many = refl }); kept = λ x e. refl }

  pub accepted : lacking nodes edges ≡ false → whole (live_ids nodes) (map arc_of edges) ≡ true → (new : List ℕ) (k : ℕ) → Holds (ids_in new) k (processing_order nodes edges)
      → Prepares nodes edges old new (Ok k)
  unfolding prepare
  accepted h w new k held = record {
    answer = rw (h, w);
    order = rw (h, w) held;
    kept = λ x e. absurd (cc);
  }

-- ---- the ids that were written
-- the live nodes are the first of the rows
pub first_of : (rows : List Node) (n k : ℕ) → k ≡ length (live_ids (take n rows)) → take k (take n rows) ≡ take k rows
first_of rows n k e =
    let few : k ≤ length (take n rows) = omega (arith, live_few (take n rows)) in
    take-take k n rows (omega (arith, length-take n rows))

-- ---- what the tests found, of the first n nodes and the first m edges: `count` is m, or the room
module _ (ns es : List ℕ) (n m : ℕ) (ids : List ℕ) (live : ℕ) (lv : Lived ids live (take n (nodes_in ns))) (words : length es ≡ 3072) (count : ℕ) (c : count ≡ min m 1024) (from to : List ℕ) (en : Ends from to (take live ids) (take count (edges_in es))) where
  all_edges : take count (edges_in es) ≡ take m (edges_in es)
  all_edges = take_count 3 edge_of es m count (omega arith)

  many_ids : length (take live ids) ≡ live
  many_ids = length-take-le live ids (omega (arith, lv.few, lv.long))

  many_edges : length (take count (edges_in es)) ≡ count
  many_edges = length-take-le count (edges_in es) (omega (arith, rows_long 3 edge_of es))

  many_ends : length (take count to) ≡ count
  many_ends = length-take-le count to (omega (arith, en.to_long))

  -- flags that say it of as many ends as edges say it of all ends
  all_ends : (flags : List Bool) → Plugged flags live (take count from) (take count to) (take count (edges_in es)) → Plugged flags live from to (take count (edges_in es))
  all_ends flags pl = record {
    long = pl.long;
    is = λ r p hr hp.
        pl.is r p hr hp ∙ ap (λ k. plugs live (take k from) (take k to) (take count (edges_in es)) r p) (sym many_edges) ∙ plugs_take live from to (take count (edges_in es)) r p;
  }

  pub lacked : (b : Bool) → Lacks (take (length (take live ids)) (nodes_in ns)) (length (take live ids)) (take count from) (take count to) (take (length (take count to)) (edges_in es)) b
      → b ≡ lacking (take n (nodes_in ns)) (take m (edges_in es))
  lacked b l =
      let k : Lacks (take live (nodes_in ns)) live (take count from) (take count to) (take count (edges_in es)) b = rw (many_ids, many_ends) at l in
      k.is
      ∙ ap (λ xs. rows_lack k.flags xs 0) (sym (first_of (nodes_in ns) n live (sym (many_live (take n (nodes_in ns)) _ _ lv))))
      ∙ lacking_is (take n (nodes_in ns)) _ _ lv (take count (edges_in es)) _ _ en k.flags (all_ends k.flags k.plugged)
      ∙ ap (lacking (take n (nodes_in ns))) all_edges

  module _ (r : Ranking) (rk : Ranked r (upto (min live 512)) (arcs (take count from) (take count to))) where
    by_edges : Ranked r (upto (min live 512)) (arcs (take (length (take count (edges_in es))) from) (take (length (take count (edges_in es))) to))
    by_edges = subst (λ k. Ranked r (upto (min live 512)) (arcs (take k from) (take k to))) (sym many_edges) rk

    pub held : r.whole ≡ whole (live_ids (take n (nodes_in ns))) (map arc_of (take m (edges_in es)))
    held = whole_is (take n (nodes_in ns)) _ _ lv (take count (edges_in es)) _ _ en r by_edges ∙ ap (λ xs. whole (live_ids (take n (nodes_in ns))) (map arc_of xs)) all_edges

    pub rows_fit : RowsIn (length (take live ids)) r
    rows_fit = subst (λ k. RowsIn k r) (sym many_ids) (rows_in (take n (nodes_in ns)) _ _ lv (take count (edges_in es)) _ _ en r by_edges)

    pub ordered_as : (new : List ℕ) → take r.rows.count new ≡ map (λ x. get_or (take live ids) x 0) (take r.rows.count r.rows.rows)
        → Holds (ids_in new) r.rows.count (processing_order (take n (nodes_in ns)) (take m (edges_in es)))
    ordered_as new w =
        subst (λ xs. Holds (ids_in new) r.rows.count (processing_order (take n (nodes_in ns)) xs)) all_edges (record {
          is = take-map as_id r.rows.count new ∙ ap (map as_id) w ∙ ordered (take n (nodes_in ns)) _ _ lv (take count (edges_in es)) _ _ en r by_edges;
          many = many_ordered (take n (nodes_in ns)) _ _ lv (take count (edges_in es)) _ _ en r by_edges;
        })
