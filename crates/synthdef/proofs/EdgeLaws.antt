-- Laws of counted edges (SPEC 6.2).
use Prim.Native.Nat.{ℕ, suc, ◌≤◌, min}
use native.Mathlib.Omega.{arith}
use mathlib.Core.Path.{◌≡◌, refl, sym, ap, ◌∙◌}
use mathlib.Core.Logic.{inl, inr}
use mathlib.Core.List.{List, [], ◌∷◌, ◌++◌, append-nil, append_assoc}
use Rattle.std.specs.Prelude.{Option, None, Some, cond, filter, find, option_map}
use mathlib.Core.Bool.{Bool, true, false, not, false≢true}
use lib.ListN.{length, length-take}
use lib.Dec.{eqb}
use borrow.Author.Tests.{eqb-true}
use Rattle.std.proofs.lemmas.List.Elements.{filter-append}
use Rattle.lists.specs.Member.{In}
use Rattle.lists.proofs.Member.{and_left, and_right, some_inj, none_some, neither}
use Rattle.lists.proofs.Filter.{filter_all, filter_filter, filter_same}
use Rattle.lists.specs.Find.{Once}
use Rattle.lists.proofs.Find.{find_in, none_find}
use Rattle.synthdef.specs.Rows.{any}
use Rattle.synthdef.specs.Tables.{edge_rows, edge_table}
use Rattle.synthdef.specs.Edges.{ends_at, taken, counted, source_at, connect, connect_all}
use Rattle.synthdef.specs.declared.def.DefEdge.{DefEdge}
use Rattle.synthdef.specs.Tables.{DefEdges}
use Rattle.synthdef.proofs.Rows.{none_any, table_rows}

-- a counted edge is one of the edges
pub counted_in : (es : List DefEdge) (x : DefEdge) → In x (counted es) → In x es
counted_in [] x i = i
counted_in (e ∷ es) x i = go (not (taken e es)) (counted_in es x) i
  where
    go : (b : Bool) → (In x (counted es) → In x es) → In x (cond b (e ∷ (counted es)) (counted es)) → In x (e ∷ es)
    go true ih (inl p) = inl p
    go true ih (inr j) = inr (ih j)
    go false ih j = inr (ih j)

pub length_counted : (es : List DefEdge) → length (counted es) ≤ length es
length_counted [] = omega arith
length_counted (e ∷ es) = go (not (taken e es)) (length_counted es)
  where
    go : (b : Bool) → length (counted es) ≤ length es → length (cond b (e ∷ (counted es)) (counted es)) ≤ suc (length es)
    go true h = omega arith
    go false h = omega arith

connect_onto : (l es : List DefEdge) → connect_all l es ≡ filter (λ x. not (taken x es)) l ++ counted es
connect_onto l [] = sym (append-nil _ ∙ filter_all (λ x. true) l (λ x i. refl))
connect_onto l (e ∷ es) =
    connect_onto (connect l e) es
    ∙ ap (λ z. z ++ counted es) (filter-append (free es) (filter (away e) l) (e ∷ []) ∙ ap (λ z. z ++ filter (free es) (e ∷ [])) (both_free l))
    ∙ append_assoc (filter (free (e ∷ es)) l) (filter (free es) (e ∷ [])) (counted es)
    ∙ ap (λ z. filter (free (e ∷ es)) l ++ z) (last (free es e))
  where
    free : List DefEdge → DefEdge → Bool
    free m x = not (taken x m)

    away : DefEdge → DefEdge → Bool
    away f x = not (ends_at x.to x.port f)

    both_free : (m : List DefEdge) → filter (free es) (filter (away e) m) ≡ filter (free (e ∷ es)) m
    both_free m = filter_filter (free es) (away e) m ∙ filter_same _ (free (e ∷ es)) m (λ x i. neither (ends_at x.to x.port e) (taken x es))

    last : (b : Bool) → cond b (e ∷ []) [] ++ counted es ≡ cond b (e ∷ (counted es)) (counted es)
    last true = refl
    last false = refl

-- the counted edges are what connecting the edges one by one leaves
pub connect_one_by_one : (es : List DefEdge) → connect_all [] es ≡ counted es
connect_one_by_one es = connect_onto [] es

-- no two counted edges end at one port
pub counted_once : (i p : ℕ) (es : List DefEdge) → Once (ends_at i p) (counted es)
counted_once i p [] x j h = absurd j
counted_once i p (e ∷ es) x j h = go (taken e es) refl (λ m. counted_once i p es x m h) j
  where
    away : any (ends_at e.to e.port) es ≡ false → ends_at i p e ≡ true → find (ends_at i p) (counted es) ≡ None
    away f k =
        let t : e.to ≡ i = eqb-true _ _ (and_left _ _ k) in
        let q : e.port ≡ p = eqb-true _ _ (and_right (eqb e.to i) _ k) in
        let f' : any (ends_at i p) es ≡ false = ap (λ a. any (ends_at a p) es) (sym t) ∙ ap (λ b. any (ends_at e.to b) es) (sym q) ∙ f in
        none_find (ends_at i p) (counted es) (λ y m. none_any (ends_at i p) es y f' (counted_in es y m))

    Later : Type 0
    Later = In x (counted es) → find (ends_at i p) (counted es) ≡ Some x

    here : taken e es ≡ false → (b : Bool) → ends_at i p e ≡ b → Later → In x (e ∷ counted es) → cond b (Some e) (find (ends_at i p) (counted es)) ≡ Some x
    here f true k ih (inl s) = ap Some (sym s)
    here f true k ih (inr m) = absurd (none_some (sym (away f k) ∙ ih m))
    here f false k ih (inl s) = absurd (false≢true (sym k ∙ sym (ap (ends_at i p) s) ∙ h))
    here f false k ih (inr m) = ih m

    go : (b : Bool) → taken e es ≡ b → Later → In x (cond (not b) (e ∷ (counted es)) (counted es)) → find (ends_at i p) (cond (not b) (e ∷ (counted es)) (counted es)) ≡ Some x
    go true f ih m = ih m
    go false f ih m = here f (ends_at i p e) refl ih m

-- the source of a port is that of a counted edge to it
pub source_edge : (es : List DefEdge) (i p j : ℕ) → source_at es i p ≡ Some j → (e : DefEdge) × In e es × (e.from ≡ j) × (e.to ≡ i)
source_edge es i p j h = go (find (ends_at i p) es) refl h
  where
    go : (o : Option DefEdge) → find (ends_at i p) es ≡ o → option_map (λ e. e.from) o ≡ Some j → (e : DefEdge) × In e es × (e.from ≡ j) × (e.to ≡ i)
    go None e k = absurd (none_some k)
    go (Some x) e k =
        let f = find_in (ends_at i p) es x e in
        (x, f.0, some_inj k, eqb-true _ _ (and_left _ _ f.1))

-- the table of the counted edges holds them
pub counted_table : (t : DefEdges) → edge_rows (edge_table (counted (edge_rows t))) ≡ counted (edge_rows t)
counted_table t =
    let few : length (counted (edge_rows t)) ≤ 48 = omega (arith, length_counted (edge_rows t), length-take (min t.count 48) t.rows) in
    table_rows 48 (counted (edge_rows t)) _ few
