-- What the order is good for (SPEC 5.2, 5.3, 21.7): it has all nodes exactly where there is no cycle among them, and
-- then each once and every source before its target.
use Prim.Native.Nat.{ℕ, zero, suc, ◌≤◌, ◌<◌}
use native.Mathlib.Omega.{arith}
use mathlib.Core.Path.{◌≡◌, refl, sym, ap, subst, ◌∙◌}
use mathlib.Core.Logic.{◌≢◌, inl, inr}
use mathlib.Core.List.{List, [], ◌∷◌, map}
use mathlib.Core.Bool.{true, false, cond, false≢true}
use borrow.Author.Tests.{eq-eqb, ne_eqb, eqb-true, eqb-false}
use lib.Dec.{eqb}
use lib.ListN.{length, get_or, length-map}
use Rattle.std.proofs.lemmas.Bool.{false_from_ne_true}
use Rattle.lists.specs.Member.{In}
use Rattle.lists.proofs.Member.{in_of_map, in_map, at_in}
use Rattle.rank.specs.Order.{Arc, among, order, whole, count_up, upto}
use Rattle.rank.specs.Cycle.{Walk, step, then, Cyclic, Acyclic, Distinct, Before, Sorted}
use Rattle.rank.specs.Names.{row_of, row_arc}
use Rattle.rank.specs.Parts.{order_rows}
use Rattle.rank.proofs.Cycle.{in_upto, upto_in, count_in, short_rows, rows_few}
use Rattle.rank.proofs.Invariant.{among_in, in_among, rows_only, rows_sorted}
use Rattle.rank.proofs.Counts.{rows_order, length_upto}
use Rattle.rank.proofs.Names.{row_in, row_back, rows_apart, order_named, whole_named}

-- ---- an order of all nodes leaves no cycle: along a walk the place in it rises
before_in : (x y : ℕ) (l : List ℕ) → Before x y l → In x l × In y l
before_in x y [] b = absurd b
before_in x y (z ∷ l) (inl p) = (inl p.0, inr p.1)
before_in x y (z ∷ l) (inr b) = let r = before_in x y l b in (inr r.0, inr r.1)

place_rises : (x y : ℕ) (l : List ℕ) → Distinct l → Before x y l → row_of l x < row_of l y
unfolding row_of
place_rises x y [] d b = absurd b
place_rises x y (z ∷ l) d b = go b (λ c. place_rises x y l d.1 c)
  where
    other : (w : ℕ) → In w l → z ≢ w
    other w m e = false≢true (sym d.0 ∙ in_among z l (subst (λ (v : ℕ). In v l) (sym e) m))

    go : Before x y (z ∷ l) → (Before x y l → row_of l x < row_of l y) → cond (eqb z x) 0 (suc (row_of l x)) < cond (eqb z y) 0 (suc (row_of l y))
    go (inl p) ih = rw (eq-eqb z x (sym p.0), ne_eqb z y (other y p.1)) (omega arith)
    go (inr c) ih = let r = before_in x y l c in rw (ne_eqb z x (other x r.0), ne_eqb z y (other y r.1)) (omega (arith, ih c))

walk_rises : (nodes : List ℕ) (es : List Arc) (l : List ℕ) → Sorted nodes es l → {u v : ℕ} → Walk nodes es u v → row_of l u < row_of l v
walk_rises nodes es l s (step e m f t p q) =
    omega (arith, place_rises e.from e.to l s.once (s.sources_first e m f t), ap (row_of l) p, ap (row_of l) q)
walk_rises nodes es l s (then a b) = omega (arith, walk_rises nodes es l s a, walk_rises nodes es l s b)

pub sorted_acyclic : (nodes : List ℕ) (es : List Arc) (l : List ℕ) → Sorted nodes es l → Acyclic nodes es
sorted_acyclic nodes es l s c = omega (arith, walk_rises nodes es l s c.back)

-- ---- indices are different
distinct_count : (k i : ℕ) → Distinct (count_up k i)
unfolding count_up
distinct_count zero i = tt
distinct_count (suc k) i =
    (false_from_ne_true (among i (count_up k (suc i))) (λ t. let r = count_in k (suc i) i (among_in i (count_up k (suc i)) t) in omega (arith, r.0)), distinct_count k (suc i))

pub distinct_upto : (n : ℕ) → Distinct (upto n)
distinct_upto n = distinct_count n 0

-- ---- nodes by any different names
module _ (nodes : List ℕ) (d : Distinct nodes) (es : List Arc) where
  abbrev n : ℕ
  n = length nodes

  abbrev name : ℕ → ℕ
  name r = get_or nodes r 0

  rs : List Arc
  rs = map (row_arc nodes) es

  abbrev rows : List ℕ
  rows = order_rows n rs

  named : order nodes es ≡ map name rows
  unfolding rs
  named = order_named nodes d es ∙ ap (map name) (sym (rows_order n rs))

  as_many : whole nodes es ≡ eqb (length rows) n
  unfolding rs whole
  as_many = whole_named nodes d es ∙ ap (λ (z : List ℕ). eqb (length z) (length (upto n))) (sym (rows_order n rs)) ∙ ap (eqb (length rows)) (length_upto n)

  -- what is in the order is a node
  pub order_only : (x : ℕ) → In x (order nodes es) → In x nodes
  order_only x m =
      let r = in_map name rows x (subst (In x) named m) in
      subst (λ (y : ℕ). In y nodes) (sym r.2) (at_in nodes r.0 (upto_in n r.0 (rows_only n rs r.0 r.1)))

  pub order_few : length (order nodes es) ≤ n
  order_few = rw (named, length-map rows name) (rows_few n rs)

  walk_back : {u v : ℕ} → Walk (upto n) rs u v → Walk nodes es (name u) (name v)
  unfolding rs row_arc
  walk_back (step e m f t p q) =
      let r = in_map (row_arc nodes) es e m in
      let a = row_back nodes r.0.from (upto_in n _ (subst (λ (x : Arc). In x.from (upto n)) r.2 f)) in
      let b = row_back nodes r.0.to (upto_in n _ (subst (λ (x : Arc). In x.to (upto n)) r.2 t)) in
      step r.0 r.1 a.0 b.0
      (sym a.1 ∙ ap (λ (x : Arc). name x.from) (sym r.2) ∙ ap name p)
      (sym b.1 ∙ ap (λ (x : Arc). name x.to) (sym r.2) ∙ ap name q)
  walk_back (then a b) = then (walk_back a) (walk_back b)

  -- an order that is not whole stops short of a cycle
  pub short_cyclic : whole nodes es ≡ false → Cyclic nodes es
  short_cyclic h =
      let o : length rows ≢ n = eqb-false _ _ (sym as_many ∙ h) in
      let c = short_rows n rs o in
      record { at = name c.at; back = walk_back c.back }

  distinct_named : (l : List ℕ) → ((x : ℕ) → In x l → x < n) → Distinct l → Distinct (map name l)
  distinct_named [] s p = tt
  distinct_named (x ∷ l) s p = (
    false_from_ne_true (among (name x) (map name l)) (λ t.
        let r = in_map name l (name x) (among_in (name x) (map name l) t) in
        let e : x ≡ r.0 = eqb-true x r.0 (sym (rows_apart nodes d x r.0 (s x (inl refl)) (s r.0 (inr r.1))) ∙ eq-eqb _ _ r.2) in
        false≢true (sym p.0 ∙ in_among x l (subst (λ (y : ℕ). In y l) (sym e) r.1))),
    distinct_named l (λ y m. s y (inr m)) p.1,
  )

  before_named : (x y : ℕ) (l : List ℕ) → Before x y l → Before (name x) (name y) (map name l)
  before_named x y [] b = absurd b
  before_named x y (z ∷ l) (inl p) = inl (ap name p.0, in_of_map name l y p.1)
  before_named x y (z ∷ l) (inr b) = inr (before_named x y l b)

  -- a whole order has every node once, and each source before its target
  pub whole_sorted : whole nodes es ≡ true → Sorted nodes es (order nodes es)
  unfolding rs row_arc
  whole_sorted h =
      let many : length rows ≡ n = eqb-true _ _ (sym as_many ∙ h) in
      let s = rows_sorted n rs many in
      let row : (x : ℕ) → In x nodes → In (row_of nodes x) (upto n) = λ x m. in_upto n (row_of nodes x) (row_in nodes x m).0 in
      rw named
      (record {
        every = λ x m. subst (λ (y : ℕ). In y (map name rows)) (row_in nodes x m).1 (in_of_map name rows (row_of nodes x) (s.every (row_of nodes x) (row x m)));
        only = λ x m. order_only x (subst (In x) (sym named) m);
        once = distinct_named rows (λ x m. upto_in n x (s.only x m)) s.once;
        sources_first = λ e m f t.
            subst (λ (a : ℕ). Before a e.to (map name rows)) (row_in nodes e.from f).1
            (subst (λ (b : ℕ). Before (name (row_of nodes e.from)) b (map name rows)) (row_in nodes e.to t).1
            (before_named (row_of nodes e.from) (row_of nodes e.to) rows
            (s.sources_first (row_arc nodes e) (in_of_map (row_arc nodes) es e m) (row e.from f) (row e.to t))));
      })

  pub whole_acyclic : whole nodes es ≡ true → Acyclic nodes es
  whole_acyclic h = sorted_acyclic nodes es (order nodes es) (whole_sorted h)

  -- and so a cycle is what makes it short
  pub cyclic_short : Cyclic nodes es → whole nodes es ≡ false
  cyclic_short c = false_from_ne_true (whole nodes es) (λ h. whole_acyclic h c)
