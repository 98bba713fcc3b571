-- From the rows of the parts to the ids of the definitions.
use Prim.Native.Nat.{ℕ, zero, suc, ◌+◌, ◌*◌, ◌≤◌, ◌<◌, min}
use native.Mathlib.Omega.{arith}
use native.Mathlib.Decide.{ℕ_discrete}
use mathlib.Core.Path.{◌≡◌, refl, sym, ap, subst, ◌∙◌}
use mathlib.Core.List.{List, [], ◌∷◌, map}
use mathlib.Core.Bool.{Bool, false, ◌&&◌, not}
use lib.Dec.{eqb}
use lib.ListN.{length, take, get_or, length-map}
use lib.Seq.{length-take-le, get_or-take}
use borrow.Author.Tests.{eq-eqb, ne_eqb}
use Rattle.lists.specs.Member.{In}
use Rattle.lists.proofs.Member.{map_same, at_in}
use Rattle.node.specs.declared.record.Node.{Node}
use Rattle.node.specs.declared.record.Edge.{Edge}
use Rattle.rank.specs.Order.{Arc, arc, order, whole, count_up, upto, arcs}
use Rattle.rank.specs.Names.{row_of, row_arc}
use Rattle.rank.specs.Parts.{Ranked}
use Rattle.rank.specs.declared.Ranking.{Ranking}
use Rattle.rank.proofs.Cycle.{upto_in}
use Rattle.rank.proofs.Counts.{length_upto}
use Rattle.rank.proofs.Names.{row_live, row_back, row_of_row, order_named, whole_named}
use Rattle.rank.proofs.Theorems.{distinct_upto, order_only, order_few}
use Rattle.prepare.specs.Live.{live_nodes, live_ids, id_of, arc_of, as_id, processing_order}
use Rattle.prepare.specs.Required.{any, connected, bit, lacks, lacking}
use Rattle.prepare.specs.Parts.{Lived, Rising, source_row, target_row, Ends, plugs, Plugged, ports_lack, rows_lack, RowsIn}
use Rattle.prepare.proofs.Rises.{live_first, live_rising, live_distinct}

any_below : (q s : ℕ → Bool) (k i : ℕ) → ((p : ℕ) → p < i + k → q p ≡ s p) → any q (count_up k i) ≡ any s (count_up k i)
unfolding any count_up
any_below q s zero i h = refl
any_below q s (suc k) i h = rw (h i (omega arith), any_below q s k (suc i) (λ p lt. h p (omega arith)))

live_long : (nodes : List Node) → length (live_nodes nodes) ≡ length (live_ids nodes)
unfolding live_ids
live_long nodes = sym (length-map (live_nodes nodes) id_of)

live_at : (nodes : List Node) (j : ℕ) → get_or (map id_of (live_nodes nodes)) j 0 ≡ get_or (live_ids nodes) j 0
unfolding live_ids
live_at nodes j = refl

-- ---- the edges between rows
row_arcs : (ids : List ℕ) (es : List Edge) → arcs (map (source_row ids) es) (map (target_row ids) es) ≡ map (row_arc ids) (map arc_of es)
unfolding arcs row_arc
row_arcs ids [] = refl
row_arcs ids (e ∷ es) = ap (λ (l : List Arc). arc (source_row ids e) (target_row ids e) ∷ l) (row_arcs ids es)

module _ (nodes : List Node) (ids : List ℕ) (n : ℕ) (lv : Lived ids n nodes) where
  pub many_live : length (live_ids nodes) ≡ n
  many_live = sym (ap length lv.is) ∙ length-take-le n ids (omega (arith, lv.few, lv.long))

  pub ids_rise : Rising (take n ids)
  ids_rise = subst Rising (sym lv.is) (live_rising nodes)

  module _ (edges : List Edge) (from to : List ℕ) (en : Ends from to (take n ids) edges) where
    abbrev rs : List Arc
    rs = map (row_arc (live_ids nodes)) (map arc_of edges)

    arcs_are : arcs (take (length edges) from) (take (length edges) to) ≡ rs
    arcs_are = rw (en.from_is, en.to_is, lv.is) (row_arcs (live_ids nodes) edges)

    -- ---- the order
    module _ (r : Ranking) (rk : Ranked r (upto (min n 512)) (arcs (take (length edges) from) (take (length edges) to))) where
      ranked : Ranked r (upto n) rs
      ranked =
          let z : min n 512 ≡ n = omega (arith, lv.few) in
          subst (λ (k : ℕ). Ranked r (upto k) rs) z (subst (Ranked r (upto (min n 512))) arcs_are rk)

      many : r.rows.count ≡ length (order (upto n) rs)
      many = ranked.many ∙ ap length ranked.is

      few : r.rows.count ≤ n
      few = omega (arith, many, order_few (upto n) (distinct_upto n) rs, length_upto n)

      rows_are : take r.rows.count r.rows.rows ≡ order (upto n) rs
      rows_are = let z : r.rows.count ≡ min r.rows.count 512 = omega (arith, few, lv.few) in ap (λ (k : ℕ). take k r.rows.rows) z ∙ ranked.is

      below : (x : ℕ) → In x (order (upto n) rs) → x < n
      below x m = upto_in n x (order_only (upto n) (distinct_upto n) rs x m)

      pub rows_in : RowsIn n r
      rows_in = record {
        long = ranked.long;
        few = omega (arith, few, lv.few);
        below = λ j h.
            let at : get_or r.rows.rows j 0 ≡ get_or (order (upto n) rs) j 0 = sym (get_or-take r.rows.count r.rows.rows j 0 h) ∙ ap (λ (q : List ℕ). get_or q j 0) rows_are in
            let lt : j < length (order (upto n) rs) = omega (arith, many) in
            omega (arith, below _ (at_in (order (upto n) rs) j lt), at);
      }

      pub whole_is : r.whole ≡ whole (live_ids nodes) (map arc_of edges)
      whole_is =
          ranked.all ∙ ap (λ (k : ℕ). whole (upto k) rs) (sym many_live)
          ∙ sym (whole_named (live_ids nodes) (live_distinct nodes) (map arc_of edges))

      -- the ids of the ranked rows are the processing order, and they are as many as the ranking counts
      pub ordered : map as_id (map (λ (x : ℕ). get_or (take n ids) x 0) (take r.rows.count r.rows.rows)) ≡ processing_order nodes edges
      unfolding processing_order
      ordered =
          ap (λ q. map as_id (map (λ (x : ℕ). get_or q x 0) (take r.rows.count r.rows.rows))) lv.is
          ∙ ap (map as_id) (ap (map (λ (x : ℕ). get_or (live_ids nodes) x 0)) rows_are
          ∙ ap (λ (k : ℕ). map (λ (x : ℕ). get_or (live_ids nodes) x 0) (order (upto k) rs)) (sym many_live)
          ∙ sym (order_named (live_ids nodes) (live_distinct nodes) (map arc_of edges)))

      pub many_ordered : r.rows.count ≡ length (processing_order nodes edges)
      many_ordered =
          sym (length-take-le r.rows.count r.rows.rows (omega (arith, rows_in.few, rows_in.long)))
          ∙ sym (length-map (take r.rows.count r.rows.rows) (λ (x : ℕ). get_or (take n ids) x 0))
          ∙ sym (length-map (map (λ (x : ℕ). get_or (take n ids) x 0) (take r.rows.count r.rows.rows)) as_id)
          ∙ ap length ordered

    -- ---- required ports
    module _ (flags : List Bool) (pl : Plugged flags n from to edges) where
      abbrev live : List ℕ
      live = live_ids nodes

      row_is : (x r : ℕ) → r < length live → eqb (row_of live x) r ≡ eqb x (get_or live r 0)
      row_is x r h = go (ℕ_discrete (row_of live x) r)
        where
          go : Dec (row_of live x ≡ r) → eqb (row_of live x) r ≡ eqb x (get_or live r 0)
          go (yes p) =
              let b : x ≡ get_or live r 0 = sym (row_back live x (rw p h)).1 ∙ ap (λ (k : ℕ). get_or live k 0) p in
              eq-eqb _ _ p ∙ sym (eq-eqb _ _ b)
          go (no o) = ne_eqb _ _ o ∙ sym (ne_eqb _ _ (λ z. o (ap (row_of live) z ∙ row_of_row live (live_distinct nodes) r h)))

      plug_is : (r p : ℕ) → r < length live → (fs ts : List ℕ) (es : List Edge) → take (length es) fs ≡ map (source_row live) es → take (length es) ts ≡ map (target_row live) es
          → plugs (length live) fs ts es r p ≡ connected live es (get_or live r 0) p
      unfolding plugs any
      plug_is r p h [] ts [] a b = refl
      plug_is r p h (f ∷ fs) [] [] a b = refl
      plug_is r p h (f ∷ fs) (t ∷ ts) [] a b = refl
      plug_is r p h [] ts (x ∷ es) a b = let z : ◌≡◌ {A = ℕ} 0 (suc (length (map (source_row live) es))) = ap length a in absurd (omega arith)
      plug_is r p h (f ∷ fs) [] (x ∷ es) a b = let z : ◌≡◌ {A = ℕ} 0 (suc (length (map (target_row live) es))) = ap length b in absurd (omega arith)
      plug_is r p h (f ∷ fs) (t ∷ ts) (x ∷ es) a b =
          let ef : f ≡ source_row live x = cc in
          let et : t ≡ target_row live x = cc in
          let fs-is : take (length es) fs ≡ map (source_row live) es = cc in
          let ts-is : take (length es) ts ≡ map (target_row live) es = cc in
          rw (ef, et, sym (row_live live x.from.0), row_is x.to.0 r h, plug_is r p h fs ts es fs-is ts-is)

      lacks_is : (x : Node) (r : ℕ) → r < n → id_of x ≡ get_or live r 0 → ports_lack flags r x.ports x.required ≡ lacks live edges x
      unfolding ports_lack lacks
      lacks_is x r h e =
          any_below (λ p. bit x.required p && not (get_or flags (r * 64 + p) false)) (λ p. bit x.required p && not (connected live edges (id_of x) p)) (min x.ports 64) 0
          (λ p hp. let lp : p < 64 = omega arith in ap (λ (b : Bool). bit x.required p && not b) (at p lp))
        where
          at : (p : ℕ) → p < 64 → get_or flags (r * 64 + p) false ≡ connected live edges (id_of x) p
          at p lp =
              let hr : r < length live = omega (arith, many_live) in
              let from_is : take (length edges) from ≡ map (source_row live) edges = en.from_is ∙ ap (λ (i : List ℕ). map (source_row i) edges) lv.is in
              let to_is : take (length edges) to ≡ map (target_row live) edges = en.to_is ∙ ap (λ (i : List ℕ). map (target_row i) edges) lv.is in
              pl.is r p h lp ∙ ap (λ (k : ℕ). plugs k from to edges r p) (sym many_live)
              ∙ plug_is r p hr from to edges from_is to_is ∙ ap (λ (y : ℕ). connected live edges y p) (sym e)

      rows_lack_lem : (xs : List Node) (i : ℕ) → ((j : ℕ) → j < length xs → (i + j < n) × (get_or (map id_of xs) j 0 ≡ get_or live (i + j) 0)) → rows_lack flags xs i ≡ any (lacks live edges) xs
      unfolding rows_lack any
      rows_lack_lem [] i h = refl
      rows_lack_lem (x ∷ xs) i h =
          let z : i + 0 ≡ i = omega arith in
          let a = h 0 (omega arith) in
          rw (
            lacks_is x i (omega (arith, a.0)) (a.1 ∙ ap (λ (k : ℕ). get_or live k 0) z),
            rows_lack_lem xs (suc i) (λ j lt. let b = h (suc j) (omega arith) in let y : i + suc j ≡ suc i + j = omega arith in (omega (arith, b.0), b.1 ∙ ap (λ (k : ℕ). get_or live k 0) y)),
          )

      pub lacking_is : rows_lack flags (take n nodes) 0 ≡ lacking nodes edges
      unfolding lacking
      lacking_is =
          let f : live_nodes nodes ≡ take n nodes = live_first nodes ∙ ap (λ (k : ℕ). take k nodes) many_live in
          ap (λ (xs : List Node). rows_lack flags xs 0) (sym f)
          ∙ rows_lack_lem (live_nodes nodes) 0 (λ j lt. let z : 0 + j ≡ j = omega arith in
          (omega (arith, many_live, live_long nodes), live_at nodes j ∙ ap (λ (k : ℕ). get_or live k 0) (sym z)))
