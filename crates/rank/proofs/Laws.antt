-- The laws by which the proofs of this crate go.
use Prim.Native.Nat.{ℕ, zero, suc, ◌+◌, ◌≤◌, ◌<◌, min}
use native.Mathlib.Omega.{arith}
use native.Mathlib.Nat.{not-suc-le-zero, add-zero, zero-add, le_refl}
use native.Mathlib.Numerals.{add-one}
use native.Mathlib.Decide.{ℕ_discrete}
use mathlib.Core.Path.{◌≡◌, refl, sym, ap, subst, ◌∙◌}
use mathlib.Core.List.{List, [], ◌∷◌, ◌++◌}
use mathlib.Core.Bool.{Bool, true, false, ◌&&◌, and-false}
use borrow.Author.Tests.{eq-eqb, ne_eqb, lt-ltb, le-ltb}
use lib.Dec.{eqb, ltb}
use Rattle.std.specs.Prelude.{Option, None, Some}
use Rattle.std.specs.Borrow.{Bor}
use Rattle.std.specs.Iterator.{Yields}
use Rattle.std.specs.Iterator.Adapters.{zip_first, zip_second, rev_source, enumerate_source, enumerate_count}
use Rattle.std.specs.declared.iter.Zip.{Zip}
use Rattle.std.specs.Slice.Iter.{iter_rest}
use Rattle.std.proofs.Common.{Iter}
use Rattle.std.specs.declared.iter.Rev.{Rev}
use Rattle.std.specs.declared.iter.Enumerate.{Enumerate}
use Rattle.std.proofs.iter.Yields.{fronts}
use Rattle.std.proofs.lemmas.Iterator.{zips}
use Rattle.std.proofs.lemmas.Slice.Zip.{zip_turn, zip_end}
use lib.ListN.{length, length-append, take, drop, get_or, set, length-take, length-set, drop_of_length-le, replicate, length-replicate, get_or-replicate}
use lib.Seq.{get_or-take, length-take-le, take-take, take-append_seam, take-length, get_or-append_seam, get_or-set_same, get_or-set_other, ext_get_or, take-suc-set, append_snoc}
use Rattle.std.proofs.lemmas.List.{drop_more}
use Rattle.lists.specs.Count.{more}
use Rattle.rank.specs.Order.{Arc, arc, arcs}
use Rattle.rank.specs.Parts.{indeg, degs, ready}
use Rattle.rank.specs.Parts.{find, none, from_at}

-- ---- arcs given by their sources and their targets
pub length_arcs : (fs ts : List ℕ) → length (arcs fs ts) ≡ min (length fs) (length ts)
unfolding arcs
length_arcs [] ts = omega arith
length_arcs (f ∷ fs) [] = omega arith
length_arcs (f ∷ fs) (t ∷ ts) = omega (arith, length_arcs fs ts)

pub get_d_arcs : (fs ts : List ℕ) (i : ℕ) → i < length fs → i < length ts → get_or (arcs fs ts) i none ≡ arc (get_or fs i 0) (get_or ts i 0)
unfolding arcs
get_d_arcs [] ts i h k = absurd (not-suc-le-zero h)
get_d_arcs (f ∷ fs) [] i h k = absurd (not-suc-le-zero k)
get_d_arcs (f ∷ fs) (t ∷ ts) zero h k = refl
get_d_arcs (f ∷ fs) (t ∷ ts) (suc i) h k = get_d_arcs fs ts i (omega arith) (omega arith)

-- as many sources as targets
module _ (fs ts : List ℕ) (paired : length fs ≡ length ts) where
  pub many_arcs : length (arcs fs ts) ≡ length ts
  many_arcs = omega (arith, length_arcs fs ts)

  module _ (i : ℕ) (h : i < length ts) where
    pub arc_at : get_or (arcs fs ts) i none ≡ arc (get_or fs i 0) (get_or ts i 0)
    arc_at = get_d_arcs fs ts i (omega arith) h

    pub next_arc : drop i (arcs fs ts) ≡ arc (get_or fs i 0) (get_or ts i 0) ∷ drop (i + 1) (arcs fs ts)
    next_arc =
        let inside : i < length (arcs fs ts) = omega (arith, many_arcs) in
        drop_more (arcs fs ts) i none inside ∙ ap (λ (e : Arc). e ∷ drop (i + 1) (arcs fs ts)) arc_at

  -- none is left behind the last
  pub no_arc : (i : ℕ) → length ts ≤ i → drop i (arcs fs ts) ≡ []
  no_arc i h = let q : length (arcs fs ts) ≤ i = omega (arith, many_arcs) in drop_of_length-le (arcs fs ts) q

  -- a loop over both lists at once that has yielded xs: the arc that comes next, or none
  module _ (xs : List (Bor ℕ × Bor ℕ)) (s t u : Zip (Iter ℕ) (Iter ℕ)) (r : Option (Bor ℕ × Bor ℕ)) (first : iter_rest (zip_first s) ≡ fs) (second : iter_rest (zip_second s) ≡ ts) (so_far : Yields (zips fronts fronts) s xs t) (step : zips fronts fronts t r u) where
    pub zip_arc : (p : Bor ℕ × Bor ℕ) → r ≡ Some p → drop (length xs) (arcs fs ts) ≡ arc p.0.now p.1.now ∷ drop (length (xs ++ (p ∷ []))) (arcs fs ts)
    zip_arc p e =
        let z = zip_turn fs ts xs s t u r first second so_far p e step in
        rw (length-append xs (p ∷ []), z.2 0, z.3 0) (next_arc (length xs) z.1)

    pub zip_none : r ≡ None → drop (length xs) (arcs fs ts) ≡ []
    zip_none e = no_arc (length xs) (omega (arith, paired, zip_end fs ts xs s t u r first second so_far e step))

pub no_row : {A : Type 0} (rows : List A) (k i : ℕ) → k ≤ i → drop i (take k rows) ≡ []
no_row rows k i h = let q : length (take k rows) ≤ i = simp length-take (omega arith) in drop_of_length-le (take k rows) q

-- ---- in-edges
pub indeg_le : (n : ℕ) (es : List Arc) (v : ℕ) → indeg n es v ≤ length es
unfolding indeg
indeg_le n [] v = le_refl 0
indeg_le n (e ∷ es) v = go (ltb e.from n && eqb e.to v) (indeg_le n es v)
  where
    go : (b : Bool) → indeg n es v ≤ length es → more b (indeg n es v) ≤ suc (length es)
    go true h = omega arith
    go false h = omega arith

pub length_degs : (n : ℕ) (es : List Arc) (k v : ℕ) → length (degs n es k v) ≡ k
unfolding degs
length_degs n es zero v = refl
length_degs n es (suc k) v = ap suc (length_degs n es k (suc v))

pub get_d_degs : (n : ℕ) (es : List Arc) (k v i : ℕ) → i < k → get_or (degs n es k v) i 0 ≡ indeg n es (v + i)
unfolding degs
get_d_degs n es zero v i h = absurd (not-suc-le-zero h)
get_d_degs n es (suc k) v zero h = rw add-zero
get_d_degs n es (suc k) v (suc i) h = get_d_degs n es k (suc v) i (omega arith) ∙ ap (indeg n es) (omega arith)

-- the counts, with the edges that are left, are the in-edges of all
abbrev pub Tally : List ℕ → ℕ → List Arc → List Arc → Type 0
Tally counts n left es = (length counts ≡ 512) × ((v : ℕ) → v < n → get_or counts v 0 + indeg n left v ≡ indeg n es v)

module _ (counts counts' : List ℕ) (n : ℕ) (e : Arc) (left es : List Arc) (inv : Tally counts n (e ∷ left) es) where
  pub tally_from : counts' ≡ counts → n ≤ e.from → Tally counts' n left es
  unfolding indeg
  tally_from q h = rw q (inv.0, λ v lt. (rw (le-ltb _ _ h) at (inv.1 v lt)))

  pub tally_to : counts' ≡ counts → n ≤ e.to → Tally counts' n left es
  unfolding indeg
  tally_to q h = rw q (inv.0, λ v lt. (rw (ne_eqb e.to v (λ z. omega arith), and-false) at (inv.1 v lt)))

  pub tally_hit : counts' ≡ set counts e.to (get_or counts e.to 0 + 1) → e.from < n → e.to < n → n ≤ 512 → Tally counts' n left es
  unfolding indeg
  tally_hit q hf ht hn = rw q (length-set counts e.to (get_or counts e.to 0 + 1) ∙ inv.0, λ v lt. go v lt (ℕ_discrete v e.to))
    where
      go : (v : ℕ) → v < n → Dec (v ≡ e.to) → get_or (set counts e.to (get_or counts e.to 0 + 1)) v 0 + indeg n left v ≡ indeg n es v
      go v lt (yes s) =
          let l : length counts ≡ 512 = inv.0 in
          let i = rw (lt-ltb _ _ hf, eq-eqb _ _ refl) at (inv.1 e.to ht) in
          rw (s, get_or-set_same counts e.to (get_or counts e.to 0 + 1) 0 (omega arith)) (omega arith)
      go v lt (no o) =
          rw (get_or-set_other counts e.to v (get_or counts e.to 0 + 1) 0 o) (rw (ne_eqb e.to v (λ z. o (sym z)), and-false) at (inv.1 v lt))

pub tally_done : (counts : List ℕ) (n : ℕ) (es : List Arc) → n ≤ 512 → Tally counts n [] es → take n counts ≡ degs n es n 0
unfolding indeg
tally_done counts n es hn inv =
    let l : length counts ≡ 512 = inv.0 in
    let k : length (take n counts) ≡ n = length-take-le n counts (omega arith) in
    ext_get_or 0 (take n counts) (degs n es n 0) (k ∙ sym (length_degs n es n 0))
    (λ i h. let hi : i < n = omega arith in
    get_or-take n counts i 0 hi ∙ sym (add-zero _) ∙ inv.1 i hi ∙ sym (get_d_degs n es n 0 i hi ∙ ap (indeg n es) (omega arith)))

pub tally_start : (n : ℕ) (es : List Arc) → n ≤ 512 → Tally (replicate 512 0) n es es
tally_start n es h = (length-replicate {A = ℕ} 512 0, λ v lt. let q : v < 512 = omega arith in rw (get_or-replicate {A = ℕ} 512 v 0 0 q, zero-add))

-- a count with an edge left to count is below the number of edges
pub tally_room : (counts : List ℕ) (n : ℕ) (left es : List Arc) → Tally counts n left es → (v : ℕ) → v < n → get_or counts v 0 ≤ length es
tally_room counts n left es inv v lt = omega (arith, inv.1 v lt, indeg_le n es v)

-- ---- the chains
-- from the place i on, `first` and `next` lead from edge to edge of a source
abbrev pub Chain : List ℕ → List ℕ → ℕ → List Arc → ℕ → Type 0
Chain first next n es i =
    (length first ≡ 512) × (length next ≡ 1024) × ((v : ℕ) → v < n → get_or first v 0 ≡ find v (drop i es) i)
    × ((j : ℕ) → i ≤ j → j < length es → from_at es j < n → get_or next j 0 ≡ find (from_at es j) (drop (j + 1) es) (j + 1))

module _ (es : List Arc) (i : ℕ) (e : Arc) (dr : drop i es ≡ e ∷ drop (i + 1) es) where
  find_here : find e.from (drop i es) i ≡ i
  unfolding find
  find_here = rw (dr, eq-eqb e.from e.from refl)

  find_past : (v : ℕ) → (e.from ≡ v → ⊥) → find v (drop i es) i ≡ find v (drop (i + 1) es) (i + 1)
  unfolding find
  find_past v o = rw (dr, ne_eqb e.from v o, add-one)

  module _ (first next : List ℕ) (n : ℕ) (fr : from_at es i ≡ e.from) (inv : Chain first next n es (i + 1)) where
    chain_skip : n ≤ e.from → Chain first next n es i
    chain_skip h = (
      inv.0,
      inv.1,
      (λ v lt. inv.2 v lt ∙ sym (find_past v (λ z. omega arith))),
      λ j le lt f. go j le lt f (ℕ_discrete j i),
    )
      where
        go : (j : ℕ) → i ≤ j → j < length es → from_at es j < n → Dec (j ≡ i) → get_or next j 0 ≡ find (from_at es j) (drop (j + 1) es) (j + 1)
        go j le lt f (yes s) = let q : from_at es i < n = rw s at f in absurd (omega arith)
        go j le lt f (no o) = inv.3 j (omega arith) lt f

    chain_link : e.from < n → n ≤ 512 → i < 1024 → Chain (set first e.from i) (set next i (get_or first e.from 0)) n es i
    chain_link h hn hi = (
      length-set first e.from i ∙ inv.0,
      length-set next i (get_or first e.from 0) ∙ inv.1,
      (λ v lt. go₁ v lt (ℕ_discrete v e.from)),
      λ j le lt f. go₂ j le lt f (ℕ_discrete j i),
    )
      where
        go₁ : (v : ℕ) → v < n → Dec (v ≡ e.from) → get_or (set first e.from i) v 0 ≡ find v (drop i es) i
        go₁ v lt (yes s) =
            let l : length first ≡ 512 = inv.0 in
            let q : e.from < length first = omega arith in
            rw (s, get_or-set_same first e.from i 0 q) (sym find_here)
        go₁ v lt (no o) = get_or-set_other first e.from v i 0 o ∙ inv.2 v lt ∙ sym (find_past v (λ z. o (sym z)))

        go₂ : (j : ℕ) → i ≤ j → j < length es → from_at es j < n → Dec (j ≡ i) → get_or (set next i (get_or first e.from 0)) j 0 ≡ find (from_at es j) (drop (j + 1) es) (j + 1)
        go₂ j le lt f (yes s) =
            let l : length next ≡ 1024 = inv.1 in
            let q : i < length next = omega arith in
            rw (s, get_or-set_same next i (get_or first e.from 0) 0 q, fr) (inv.2 e.from h)
        go₂ j le lt f (no o) = get_or-set_other next i j (get_or first e.from 0) 0 o ∙ inv.3 j (omega arith) lt f

-- of the arcs from fs to ts, the arc at i before those that are linked
module _ (fs ts : List ℕ) (paired : length fs ≡ length ts) (i : ℕ) (h : i < length ts) (first next : List ℕ) (n : ℕ) (inv : Chain first next n (arcs fs ts) (i + 1)) where
  from_at_lem : from_at (arcs fs ts) i ≡ get_or fs i 0
  from_at_lem = ap (λ (x : Arc). x.from) (arc_at fs ts paired i h)

  arc_skip : n ≤ get_or fs i 0 → Chain first next n (arcs fs ts) i
  arc_skip = chain_skip (arcs fs ts) i (arc (get_or fs i 0) (get_or ts i 0)) (next_arc fs ts paired i h) first next n from_at_lem inv

  arc_link : get_or fs i 0 < n → n ≤ 512 → i < 1024 → Chain (set first (get_or fs i 0) i) (set next i (get_or first (get_or fs i 0) 0)) n (arcs fs ts) i
  arc_link = chain_link (arcs fs ts) i (arc (get_or fs i 0) (get_or ts i 0)) (next_arc fs ts paired i h) first next n from_at_lem inv

pub chain_start : (n m : ℕ) (es : List Arc) → n ≤ 512 → length es ≡ m → Chain (replicate 512 m) (replicate 1024 m) n es m
unfolding find
chain_start n m es hn e =
    let past : length es ≤ m = omega arith in (
      length-replicate {A = ℕ} 512 m,
      length-replicate {A = ℕ} 1024 m,
      (λ v lt. let q : v < 512 = omega arith in rw (get_or-replicate {A = ℕ} 512 v m 0 q, drop_of_length-le es past)),
      λ j le lt f. absurd (omega arith),
    )

-- what a walk over the sources from the last back has left
abbrev pub before : Rev (Enumerate (Iter ℕ)) → List ℕ
before s = iter_rest (enumerate_source (rev_source s))

-- these are the first of the sources, and they are numbered from 0 on
abbrev pub Back : List ℕ → Rev (Enumerate (Iter ℕ)) → Type 0
Back fs s = (enumerate_count (rev_source s) ≡ 0) × (before s ≡ take (length (before s)) fs)

-- the last of the first few
last_of : (fs xs : List ℕ) (v : ℕ) → xs ++ v ∷ [] ≡ take (length (xs ++ v ∷ [])) fs → (xs ≡ take (length xs) fs) × (v ≡ get_or fs (length xs) 0) × (length xs < length fs)
last_of fs xs v e =
    let k : length (xs ++ v ∷ []) ≡ length xs + 1 = length-append xs (v ∷ []) in
    let low : length xs < length (xs ++ v ∷ []) = omega (arith, k) in (
      sym (take-append_seam xs (v ∷ [])) ∙ ap (take (length xs)) e ∙ take-take (length xs) (length (xs ++ v ∷ [])) fs (omega (arith, k)),
      sym (get_or-append_seam xs v [] 0) ∙ ap (λ l. get_or l (length xs) 0) e ∙ get_or-take (length (xs ++ v ∷ [])) fs (length xs) 0 low,
      omega (arith, k, ap length e, length-take (length (xs ++ v ∷ [])) fs),
    )

pub back_start : (fs : List ℕ) (s : Rev (Enumerate (Iter ℕ))) → enumerate_count (rev_source s) ≡ 0 → before s ≡ fs → Back fs s
back_start fs s none all = (none, rw (all, take-length fs) refl)

-- a step back gives the last source that is left, and its number
module _ (fs ts : List ℕ) (paired : length fs ≡ length ts) (s t : Rev (Enumerate (Iter ℕ))) (i v : ℕ) (inv : Back fs s) (same : enumerate_count (rev_source t) ≡ enumerate_count (rev_source s)) (step : before s ≡ before t ++ v ∷ []) (number : i ≡ enumerate_count (rev_source s) + length (before t)) (first next : List ℕ) (n : ℕ) (chain : Chain first next n (arcs fs ts) (length (before s))) where
  at_i : i ≡ length (before t)
  at_i = omega (arith, number, inv.0)

  parts : (before t ≡ take (length (before t)) fs) × (v ≡ get_or fs (length (before t)) 0) × (length (before t) < length fs)
  parts = last_of fs (before t) v (sym step ∙ inv.1 ∙ ap (λ xs. take (length xs) fs) step)

  kept : Back fs t
  kept = (same ∙ inv.0, parts.0)

  is : v ≡ get_or fs i 0
  is = parts.1 ∙ ap (λ k. get_or fs k 0) (sym at_i)

  inside : i < length ts
  inside = omega (arith, parts.2, at_i, paired)

  behind : Chain first next n (arcs fs ts) (i + 1)
  behind = subst (Chain first next n (arcs fs ts)) (ap length step ∙ length-append (before t) (v ∷ []) ∙ ap (λ k. k + 1) (sym at_i)) chain

  pub back_skip : n ≤ v → Back fs t × Chain first next n (arcs fs ts) (length (before t))
  back_skip h = (kept, subst (Chain first next n (arcs fs ts)) at_i (arc_skip fs ts paired i inside first next n behind (rw (← is) h)))

  pub back_link : v < n → n ≤ 512 → length ts ≤ 1024 → Back fs t × Chain (set first v i) (set next i (get_or first v 0)) n (arcs fs ts) (length (before t))
  back_link h few short =
      let at_v : Chain (set first v i) (set next i (get_or first v 0)) n (arcs fs ts) i =
      rw is (arc_link fs ts paired i inside first next n behind (rw (← is) h) few (omega (arith, inside, short))) in
      (kept, subst (Chain (set first v i) (set next i (get_or first v 0)) n (arcs fs ts)) at_i at_v)

-- ---- the rows that are ready at the start
-- the queue, with the rows from v on that are ready, is all that are ready
abbrev pub Filled : List ℕ → ℕ → ℕ → List ℕ → Type 0
Filled queue tail v cs = (length queue ≡ 512) × (tail ≤ v) × (take tail queue ++ ready (drop v cs) v ≡ ready cs 0)

module _ (queue : List ℕ) (tail v : ℕ) (cs : List ℕ) (k : ℕ) (dr : drop v cs ≡ k ∷ drop (v + 1) cs) (inv : Filled queue tail v cs) where
  pub fill_hit : k ≡ 0 → v < 512 → Filled (set queue tail v) (tail + 1) (v + 1) cs
  unfolding ready
  fill_hit z h =
      let l : length queue ≡ 512 = inv.0 in
      let a : tail ≤ v = inv.1 in
      let q : tail < length queue = omega arith in (
        length-set queue tail v ∙ inv.0,
        omega arith,
        rw (add-one tail, add-one v, take-suc-set queue tail v q, append_snoc) (rw (dr, eq-eqb k 0 z, add-one) at inv.2),
      )

  pub fill_miss : (k ≡ 0 → ⊥) → Filled queue tail (v + 1) cs
  unfolding ready
  fill_miss o =
      let a : tail ≤ v = inv.1 in
      (inv.0, omega arith, (rw (add-one v) (rw (dr, ne_eqb k 0 o, add-one) at inv.2)))
