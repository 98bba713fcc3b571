-- The processing order by rows: from what the parts of a prepare compute to its definition.
use Prim.Native.Nat.{ℕ, zero, suc, ◌+◌, ◌-◌, ◌≤◌, ◌<◌, min}
use native.Mathlib.Omega.{arith}
use mathlib.Core.Path.{◌≡◌, refl, sym, ap, subst, ◌∙◌}
use mathlib.Core.Logic.{inl, inr}
use mathlib.Core.List.{List, [], ◌∷◌, ◌++◌, map, map-append}
use mathlib.Core.Bool.{Bool, true, false, ◌||◌, false≢true}
use lib.ListN.{length, take, drop, get_or, replicate, length-map, length-append, length-replicate}
use lib.Seq.{take_all, take-append_seam, drop-cons}
use borrow.Author.Tests.{eqb-true, eq-eqb}
use Rattle.std.specs.Prelude.{Option, None, Some, unwrap_or, Ok, Err}
use Rattle.std.specs.List.{position, list_any, range_with_len}
use Rattle.std.proofs.lemmas.List.{drop_all, take_more}
use Rattle.std.proofs.lemmas.Simd.{map-map}
use Rattle.lists.specs.Member.{In}
use Rattle.lists.specs.Rising.{RisesFrom}
use Rattle.lists.proofs.Find.{find_in, find_none}
use Rattle.lists.proofs.Lone.{row_at, find_row, no_row}
use Rattle.node.specs.declared.record.NodeId.{NodeId}
use Rattle.node.specs.declared.record.Node.{Node}
use Rattle.node.specs.declared.record.Edge.{Edge}
use Rattle.node.specs.declared.refusal.Refusal.TheVariants.{RequiredPort, Cycle}
use Rattle.rank.specs.Order.{whole, order, upto, arcs}
use Rattle.rank.specs.Names.{row_of}
use Rattle.rank.specs.Parts.{Ranked, ranking_of}
use Rattle.rank.proofs.Laws.{length_arcs}
use Rattle.rank.specs.declared.Ranking.{Ranking}
use Rattle.prepare.specs.Live as live
use Rattle.prepare.specs.Live.{live_ids, live_all, arc_of, as_id, processing_order}
use Rattle.prepare.specs.Required.{lacking}
use Rattle.prepare.specs.Prepare.{prepare}
use Rattle.prepare.specs.Parts.{Lived, Ends, Plugged, plugs, source_row, target_row, RowsIn, rows_lack}
use Rattle.prepare.proofs.Find.{guessed, row_nowhere}
use Rattle.prepare.proofs.Graph.{rows_in, whole_is, ordered, lacking_is}
use Rattle.prepare.proofs.Ports.{plugs_take, Flags, rows_next}
use Rattle.prepare.proofs.Rises.{live_rising}
use Rattle.graph.specs.Node.{is_node, host_node}
use Rattle.graph.specs.Sound.{id_of}
use Rattle.graph.specs.Masks.{ports_in, mask_lacks}
use Rattle.graph.proofs.Masks.{mask_lacks_lem}
use Rattle.graph.specs.Sorts.{FedPorts, named, Sorts}

-- ---- the ids of nodes whose ids rise
rises_live : (least : ℕ) (l : List Node) → RisesFrom id_of least l → live.RisesFrom least l
rises_live least [] r = tt
rises_live least (x ∷ l) r = (r.0, rises_live (suc x.id.0) l r.1)

pub live_is : (nodes : List Node) → RisesFrom id_of 0 nodes → live_ids nodes ≡ map id_of nodes
unfolding live_ids
live_is nodes r = ap (map id_of) (live_all nodes (rises_live 0 nodes r))

pub many_ids : (nodes : List Node) → RisesFrom id_of 0 nodes → length (live_ids nodes) ≡ length nodes
many_ids nodes r = ap length (live_is nodes r) ∙ length-map nodes id_of

pub id_at : (nodes : List Node) (i : ℕ) (d : Node) → i < length nodes → get_or (map id_of nodes) i 0 ≡ (get_or nodes i d).id.0
id_at [] i d h = absurd (omega arith)
id_at (x ∷ l) zero d h = refl
id_at (x ∷ l) (suc i) d h = let k : i < length l = omega arith in id_at l i d k

row_in : (l : List Node) (i : ℕ) (d : Node) → i < length l → In (get_or l i d) l
row_in [] i d m = absurd (omega arith)
row_in (x ∷ l) zero d m = inl refl
row_in (x ∷ l) (suc i) d m = let k : i < length l = omega arith in inr (row_in l i d k)

module _ (nodes : List Node) (rises : RisesFrom id_of 0 nodes) where
  live_at : (i : ℕ) (d : Node) → i < length nodes → get_or (live_ids nodes) i 0 ≡ (get_or nodes i d).id.0
  live_at i d h = ap (λ l. get_or l i 0) (live_is nodes rises) ∙ id_at nodes i d h

  pub row_guessed : (k : NodeId) (g : ℕ) (d : Node) → g < length nodes → (get_or nodes g d).id.0 ≡ k.0 → g ≡ row_of (live_ids nodes) k.0
  row_guessed k g d h e =
      let inside : g < length (live_ids nodes) = omega (arith, h, many_ids nodes rises) in
      guessed (live_ids nodes) k.0 (live_rising nodes) g inside (live_at g d h ∙ e)

  pub row_found : (k : NodeId) (o : Option ℕ) → o ≡ position (is_node k) nodes → unwrap_or o (length nodes) ≡ row_of (live_ids nodes) k.0
  row_found k None e =
      sym (many_ids nodes rises)
      ∙ row_nowhere (live_ids nodes) k.0
      (λ j lt s.
      let h : j < length nodes = omega (arith, lt, many_ids nodes rises) in
      let d = host_node [] 0 0 false false in
      absurd (false≢true (sym (find_none (is_node k) nodes (get_or nodes j d) (no_row (is_node k) nodes e) (row_in nodes j d h)) ∙ eq-eqb _ _ (sym (live_at j d h) ∙ s))))
  row_found k (Some i) e =
      let d = host_node [] 0 0 false false in
      let at = row_at (is_node k) nodes i e in
      let found = find_in (is_node k) nodes (get_or nodes i d) (find_row (is_node k) nodes i d e) in
      row_guessed k i d at.0 (eqb-true _ _ found.1)

-- ---- the loops over edges and nodes
next_row : {A : Type 0} (l : List A) (i : ℕ) (d : A) → i < length l → drop i l ≡ get_or l i d ∷ drop (i + 1) l
next_row l i d h = let one : suc i ≡ i + 1 = omega arith in drop-cons l i d h ∙ ap (λ j. get_or l i d ∷ drop j l) one

pub mapped_more : {A : Type 0} (f : A → ℕ) (l : List A) (i : ℕ) (d : A) (m : List ℕ) (x : ℕ) → m ≡ map f (take i l) → x ≡ f (get_or l i d) → i < length l → m ++ x ∷ [] ≡ map f (take (i + 1) l)
mapped_more f l i d m x e s h =
    ap (λ z. z ++ x ∷ []) e ∙ ap (λ y. map f (take i l) ++ y ∷ []) s ∙ sym (ap (map f) (take_more l i d h) ∙ map-append f (take i l) (get_or l i d ∷ []))

pub turn : (flags : List Bool) (n : ℕ) (src tgt : Edge → ℕ) (es : List Edge) (i : ℕ) (d : Edge) (all : ℕ → ℕ → Bool) (f t : ℕ) → i < length es → f ≡ src (get_or es i d) → t ≡ tgt (get_or es i d)
    → Flags flags n (map src (drop i es)) (map tgt (drop i es)) (drop i es) all
    → Flags flags n (f ∷ map src (drop (i + 1) es)) (t ∷ map tgt (drop (i + 1) es)) (get_or es i d ∷ drop (i + 1) es) all
turn flags n src tgt es i d all f t h a b inv =
    let e = get_or es i d in
    subst (λ y. Flags flags n (y ∷ map src (drop (i + 1) es)) (t ∷ map tgt (drop (i + 1) es)) (e ∷ drop (i + 1) es) all) (sym a)
    (subst (λ y. Flags flags n (src e ∷ map src (drop (i + 1) es)) (y ∷ map tgt (drop (i + 1) es)) (e ∷ drop (i + 1) es) all) (sym b)
    (subst (λ l. Flags flags n (map src l) (map tgt l) l all) (next_row es i d h) inv))

module _ (masks : List ℕ) (nodes : List Node) (few : length nodes ≤ length masks) (d : Node) where
  abbrev pub lacks : ℕ → Bool
  lacks i = mask_lacks (get_or masks i 0) (get_or nodes i d).ports (get_or nodes i d).required

  pub lacks_from : (m i : ℕ) → i + m ≡ length nodes → list_any lacks (range_with_len i m) ≡ rows_lack (ports_in masks) (drop i nodes) i
  unfolding rows_lack
  lacks_from zero i h = sym (ap (λ z. rows_lack (ports_in masks) z i) (drop_all i nodes (omega (arith, h))))
  lacks_from (suc m) i h =
      let low : i < length nodes = omega (arith, h) in
      let room : i < length masks = omega (arith, low, few) in
      ap (λ b. lacks i || b) (lacks_from m (i + 1) (omega (arith, h)))
      ∙ sym (rows_next (ports_in masks) nodes i (get_or nodes i d) (lacks i) (next_row nodes i d low) (mask_lacks_lem masks i (get_or nodes i d).ports (get_or nodes i d).required room))

-- ---- a list in an array of k
pad : ℕ → List ℕ → List ℕ
pad k l = l ++ replicate (k - length l) 0

pad_long : (k : ℕ) (l : List ℕ) → length l ≤ k → length (pad k l) ≡ k
unfolding pad
pad_long k l h = omega (arith, length-append l (replicate (k - length l) 0), length-replicate {A = ℕ} (k - length l) 0, h)

pad_take : (k : ℕ) (l : List ℕ) (n : ℕ) → n ≡ length l → take n (pad k l) ≡ l
unfolding pad
pad_take k l n e = ap (λ j. take j (l ++ replicate (k - length l) 0)) e ∙ take-append_seam l (replicate (k - length l) 0)

module _ (nodes : List Node) (rises : RisesFrom id_of 0 nodes) (few : length nodes ≤ 512) (edges : List Edge) (short : length edges ≤ 1024) where
  abbrev n : ℕ
  n = length nodes

  abbrev ids : List ℕ
  ids = pad 512 (live_ids nodes)

  lived : Lived ids n nodes
  lived = record {
    long = pad_long 512 (live_ids nodes) (omega (arith, few, many_ids nodes rises));
    few = few;
    is = pad_take 512 (live_ids nodes) n (sym (many_ids nodes rises));
  }

  abbrev sources : List ℕ
  sources = map (source_row (live_ids nodes)) edges

  abbrev targets : List ℕ
  targets = map (target_row (live_ids nodes)) edges

  from_is : take (length edges) (pad 1024 sources) ≡ sources
  from_is = pad_take 1024 sources (length edges) (sym (length-map edges (source_row (live_ids nodes))))

  to_is : take (length edges) (pad 1024 targets) ≡ targets
  to_is = pad_take 1024 targets (length edges) (sym (length-map edges (target_row (live_ids nodes))))

  ends : Ends (pad 1024 sources) (pad 1024 targets) (take n ids) edges
  ends = record {
    from_long = pad_long 1024 sources (omega (arith, short, length-map edges (source_row (live_ids nodes))));
    to_long = pad_long 1024 targets (omega (arith, short, length-map edges (target_row (live_ids nodes))));
    from_is = from_is ∙ ap (λ l. map (source_row l) edges) (sym lived.is);
    to_is = to_is ∙ ap (λ l. map (target_row l) edges) (sym lived.is);
  }

  pub lacks_as : (fed : List ℕ) → FedPorts fed nodes edges → rows_lack (ports_in fed) nodes 0 ≡ lacking nodes edges
  lacks_as fed pl =
      ap (λ l. rows_lack (ports_in fed) l 0) (sym (take_all n nodes (omega arith)))
      ∙ lacking_is nodes ids n lived edges (pad 1024 sources) (pad 1024 targets) ends (ports_in fed) all
    where
      all : Plugged (ports_in fed) n (pad 1024 sources) (pad 1024 targets) edges
      all = record {
        long = pl.long;
        is = λ r p hr hp.
            pl.is r p hr hp
            ∙ ap (λ l. plugs n l targets edges r p) (sym from_is) ∙ ap (λ l. plugs n (take (length edges) (pad 1024 sources)) l edges r p) (sym to_is)
            ∙ plugs_take n (pad 1024 sources) (pad 1024 targets) edges r p;
      }

  module _ (r : Ranking) (rk : Ranked r (upto (min n 512)) (arcs sources targets)) where
    padded : Ranked r (upto (min n 512)) (arcs (take (length edges) (pad 1024 sources)) (take (length edges) (pad 1024 targets)))
    padded = subst (λ l. Ranked r (upto (min n 512)) (arcs l (take (length edges) (pad 1024 targets)))) (sym from_is) (subst (λ l. Ranked r (upto (min n 512)) (arcs sources l)) (sym to_is) rk)

    pub whole_as : r.whole ≡ whole (live_ids nodes) (map arc_of edges)
    whole_as = whole_is nodes ids n lived edges (pad 1024 sources) (pad 1024 targets) ends r padded

    pub fit : RowsIn n r
    fit = rows_in nodes ids n lived edges (pad 1024 sources) (pad 1024 targets) ends r padded

    pub named_as : named nodes (take r.rows.count r.rows.rows) ≡ processing_order nodes edges
    named_as =
        let rows = take r.rows.count r.rows.rows in
        ap (λ l. map (λ x. as_id (get_or l x 0)) rows) (sym (lived.is ∙ live_is nodes rises)) ∙ sym (map-map as_id (λ x. get_or (take n ids) x 0) rows)
        ∙ ordered nodes ids n lived edges (pad 1024 sources) (pad 1024 targets) ends r padded

-- what the ranking promises, of the rows of the edges' ends
pub ranked_as : (nodes : List Node) (edges : List Edge) → length edges ≤ 1024 → (r : Ranking) (from to : List ℕ) → from ≡ map (source_row (live_ids nodes)) edges → to ≡ map (target_row (live_ids nodes)) edges
    → ranking_of r ≡ order (upto (min (length nodes) 512)) (take 1024 (arcs from to)) → r.whole ≡ whole (upto (min (length nodes) 512)) (take 1024 (arcs from to)) → (length r.rows.rows ≡ 512) × (r.rows.count ≡ length (ranking_of r))
    → Ranked r (upto (min (length nodes) 512)) (arcs (map (source_row (live_ids nodes)) edges) (map (target_row (live_ids nodes)) edges))
ranked_as nodes edges short r from to a b is all sized =
    let rows = arcs (map (source_row (live_ids nodes)) edges) (map (target_row (live_ids nodes)) edges) in
    let few : length rows ≤ 1024 = omega (arith, short, length_arcs (map (source_row (live_ids nodes)) edges) (map (target_row (live_ids nodes)) edges), length-map edges (target_row (live_ids nodes))) in
    let same : take 1024 (arcs from to) ≡ rows = ap (λ l. take 1024 (arcs l to)) a ∙ ap (λ l. take 1024 (arcs (map (source_row (live_ids nodes)) edges) l)) b ∙ take_all 1024 rows few in
    record {
      long = sized.0;
      is = is ∙ ap (order (upto (min (length nodes) 512))) same;
      many = sized.1;
      all = all ∙ ap (whole (upto (min (length nodes) 512))) same;
    }

-- ---- prepare's three answers
module _ (nodes : List Node) (edges : List Edge) (old : List NodeId) where
  pub refused_13 : lacking nodes edges ≡ true → Sorts nodes edges old old (Err RequiredPort)
  unfolding prepare
  refused_13 h = record { answer = rw h; order = λ e. absurd (cc); kept = λ x e. refl }

  pub refused_14 : lacking nodes edges ≡ false → whole (live_ids nodes) (map arc_of edges) ≡ false → Sorts nodes edges old old (Err Cycle)
  unfolding prepare
  refused_14 h w = record { answer = rw (h, w); order = λ e. absurd (cc); kept = λ x e. refl }

  pub accepted : lacking nodes edges ≡ false → whole (live_ids nodes) (map arc_of edges) ≡ true → (new : List NodeId) → new ≡ processing_order nodes edges → Sorts nodes edges old new (Ok tt)
  unfolding prepare
  accepted h w new e = record { answer = rw (h, w); order = λ x. rw (h, w) e; kept = λ x e. absurd (cc) }
