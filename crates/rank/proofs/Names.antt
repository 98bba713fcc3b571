-- The order of nodes by their names is that of their rows, by name again.
use Prim.Native.Nat.{ℕ, zero, suc, ◌≤◌, ◌<◌}
use native.Mathlib.Omega.{arith}
use native.Mathlib.Nat.{not-suc-le-zero}
use native.Mathlib.Decide.{ℕ_discrete, dec_lt}
use mathlib.Core.Path.{◌≡◌, refl, sym, ap, subst, ◌∙◌}
use mathlib.Core.Logic.{◌≢◌, inl, inr, ⊎_elim}
use mathlib.Core.List.{List, [], ◌∷◌, ◌++◌, map}
use mathlib.Core.Bool.{Bool, true, false, ◌&&◌, not, cond, false≢true}
use borrow.Author.Tests.{eq-eqb, ne_eqb, lt-ltb, le-ltb}
use lib.Dec.{eqb, ltb}
use lib.ListN.{length, get_or, length-map, length-append}
use lib.Seq.{append_snoc, get_or-append_seam}
use Rattle.std.proofs.lemmas.List.{map-append}
use Rattle.lists.specs.Member.{In}
use Rattle.lists.proofs.Member.{and_left, and_right, in_append, at_in}
use Rattle.std.specs.Prelude.{filter}
use Rattle.lists.proofs.Filter.{in_filter}
use Rattle.rank.specs.Order.{Arc, arc, among, fed, live, own, others, released, walk, order, whole, count_up, upto}
use Rattle.rank.specs.Cycle.{Distinct}
use Rattle.rank.specs.Names.{row_of, row_arc}
use Rattle.rank.proofs.Cycle.{upto_in}
use Rattle.rank.proofs.Invariant.{among_in, in_among}
use Rattle.rank.proofs.Counts.{among_upto, length_upto}

filter_map_in : {A B : Type 0} (f : A → B) (q : B → Bool) (r : A → Bool) (l : List A) → ((x : A) → In x l → q (f x) ≡ r x) → filter q (map f l) ≡ map f (filter r l)
filter_map_in f q r [] h = refl
filter_map_in f q r (x ∷ l) h = rw (h x (inl refl), filter_map_in f q r l (λ y m. h y (inr m))) (go (r x))
  where
    go : (b : Bool) → cond b ((f x) ∷ (map f (filter r l))) (map f (filter r l)) ≡ map f (cond b (x ∷ (filter r l)) (filter r l))
    go true = refl
    go false = refl

-- ---- names that are different at different rows below n
module _ (f : ℕ → ℕ) (n : ℕ) (apart : (a b : ℕ) → a < n → b < n → eqb (f a) (f b) ≡ eqb a b) where
  abbrev named : Arc → Arc
  named e = arc (f e.from) (f e.to)

  abbrev Small : List ℕ → Type 0
  Small l = (x : ℕ) → In x l → x < n

  abbrev Between : List Arc → Type 0
  Between l = (e : Arc) → In e l → (e.from < n) × (e.to < n)

  fed_named : (l : List Arc) (t : ℕ) → Between l → t < n → fed (f t) (map named l) ≡ fed t l
  unfolding fed
  fed_named [] t h k = refl
  fed_named (e ∷ l) t h k = rw (apart e.to t (h e (inl refl)).1 k, fed_named l t (λ x m. h x (inr m)) k)

  own_named : (v : ℕ) (l : List Arc) → v < n → Between l → own (f v) (map named l) ≡ map named (own v l)
  own_named v l k h = filter_map_in named _ _ l (λ e m. apart e.from v (h e m).0 k)

  others_named : (v : ℕ) (l : List Arc) → v < n → Between l → others (f v) (map named l) ≡ map named (others v l)
  others_named v l k h = filter_map_in named _ _ l (λ e m. ap not (apart e.from v (h e m).0 k))

  released_named : (mine left : List Arc) → Between mine → Between left → released (map named mine) (map named left) ≡ map f (released mine left)
  unfolding released
  released_named [] left h k = refl
  released_named (e ∷ mine) left h k =
      let rest : Between mine = λ x m. h x (inr m) in
      let all : Between (mine ++ left) = λ x m. ⊎_elim (rest x) (k x) (in_append mine left x m) in
      let t : fed (f e.to) (map named mine ++ map named left) ≡ fed e.to (mine ++ left) =
      ap (fed (f e.to)) (sym (map-append named mine left)) ∙ fed_named (mine ++ left) e.to all (h e (inl refl)).1 in
      rw (t, released_named mine left rest k) (go (not (fed e.to (mine ++ left))))
    where
      go : (b : Bool) → cond b ((f e.to) ∷ (map f (released mine left))) (map f (released mine left)) ≡ map f (cond b (e.to ∷ (released mine left)) (released mine left))
      go true = refl
      go false = refl

  in_released : (mine left : List Arc) → Between mine → Small (released mine left)
  unfolding released
  in_released [] left h x m = absurd m
  in_released (e ∷ mine) left h x m = go (not (fed e.to (mine ++ left))) m (in_released mine left (λ y i. h y (inr i)) x)
    where
      go : (b : Bool) → In x (cond b (e.to ∷ (released mine left)) (released mine left)) → (In x (released mine left) → x < n) → x < n
      go true (inl p) ih = rw p (h e (inl refl)).1
      go true (inr i) ih = ih i
      go false i ih = ih i

  walk_named : (k : ℕ) (queue : List ℕ) (left : List Arc) → Small queue → Between left → walk k (map f queue) (map named left) ≡ map f (walk k queue left)
  unfolding walk
  walk_named zero queue left s b = refl
  walk_named (suc k) [] left s b = refl
  walk_named (suc k) (v ∷ queue) left s b =
      let hv : v < n = s v (inl refl) in
      let bo : Between (own v left) = λ e m. b e (in_filter _ left e m).0 in
      let bt : Between (others v left) = λ e m. b e (in_filter _ left e m).0 in
      let r = released (own v left) (others v left) in
      let q : Small (queue ++ r) = λ x m. ⊎_elim (λ i. s x (inr i)) (in_released (own v left) (others v left) bo x) (in_append queue r x m) in
      let e : released (own (f v) (map named left)) (others (f v) (map named left)) ≡ map f r =
      rw (own_named v left hv b, others_named v left hv b) (released_named (own v left) (others v left) bo bt) in
      rw (e, others_named v left hv b, ← (map-append f queue r), walk_named k (queue ++ r) (others v left) q bt)

-- ---- rows of names
pub row_in : (names : List ℕ) (x : ℕ) → In x names → (row_of names x < length names) × (get_or names (row_of names x) 0 ≡ x)
unfolding row_of
row_in [] x m = absurd m
row_in (y ∷ names) x m = go (ℕ_discrete y x) m (row_in names x)
  where
    go : Dec (y ≡ x) → In x (y ∷ names) → (In x names → (row_of names x < length names) × (get_or names (row_of names x) 0 ≡ x))
        → (cond (eqb y x) 0 (suc (row_of names x)) < suc (length names)) × (get_or (y ∷ names) (cond (eqb y x) 0 (suc (row_of names x))) 0 ≡ x)
    go (yes e) m ih = rw (eq-eqb y x e) (omega arith, e)
    go (no o) (inl p) ih = absurd (o (sym p))
    go (no o) (inr i) ih = let r = ih i in rw (ne_eqb y x o) (omega (arith, r.0), r.1)

row_out : (names : List ℕ) (x : ℕ) → among x names ≡ false → row_of names x ≡ length names
unfolding row_of among
row_out [] x h = refl
row_out (y ∷ names) x h = go (ℕ_discrete y x) (row_out names x)
  where
    go : Dec (y ≡ x) → (among x names ≡ false → row_of names x ≡ length names) → cond (eqb y x) 0 (suc (row_of names x)) ≡ suc (length names)
    go (yes e) ih = absurd (false≢true (sym h ∙ rw (eq-eqb x y (sym e))))
    go (no o) ih = rw (ne_eqb y x o) (ap suc (ih (rw (ne_eqb x y (λ z. o (sym z))) at h)))

-- a name is a node's where its row is a row
pub row_live : (names : List ℕ) (x : ℕ) → among x names ≡ ltb (row_of names x) (length names)
row_live names x = go (among x names) refl
  where
    go : (b : Bool) → among x names ≡ b → among x names ≡ ltb (row_of names x) (length names)
    go true e = e ∙ sym (lt-ltb _ _ (row_in names x (among_in x names e)).0)
    go false e = let h : length names ≤ row_of names x = omega (arith, row_out names x e) in e ∙ sym (le-ltb _ _ h)

pub row_back : (names : List ℕ) (x : ℕ) → row_of names x < length names → In x names × (get_or names (row_of names x) 0 ≡ x)
row_back names x h = go (among x names) refl
  where
    go : (b : Bool) → among x names ≡ b → In x names × (get_or names (row_of names x) 0 ≡ x)
    go true e = let m = among_in x names e in (m, (row_in names x m).1)
    go false e = absurd (omega (arith, row_out names x e))

-- of different names, each row's name is at that row first
pub row_of_row : (names : List ℕ) → Distinct names → (r : ℕ) → r < length names → row_of names (get_or names r 0) ≡ r
unfolding row_of
row_of_row [] d r h = absurd (not-suc-le-zero h)
row_of_row (y ∷ names) d zero h = rw (eq-eqb y y refl)
row_of_row (y ∷ names) d (suc r) h =
    let m = at_in names r (omega arith) in
    let o : y ≢ get_or names r 0 = λ e. false≢true (sym d.0 ∙ in_among y names (subst (λ (z : ℕ). In z names) (sym e) m)) in
    rw (ne_eqb y (get_or names r 0) o, row_of_row names d.1 r (omega arith))

pub rows_apart : (names : List ℕ) → Distinct names → (a b : ℕ) → a < length names → b < length names → eqb (get_or names a 0) (get_or names b 0) ≡ eqb a b
rows_apart names d a b ha hb = go (ℕ_discrete a b)
  where
    go : Dec (a ≡ b) → eqb (get_or names a 0) (get_or names b 0) ≡ eqb a b
    go (yes e) = eq-eqb _ _ (ap (λ (x : ℕ). get_or names x 0) e) ∙ sym (eq-eqb a b e)
    go (no o) = ne_eqb _ _ (λ e. o (sym (row_of_row names d a ha) ∙ ap (row_of names) e ∙ row_of_row names d b hb)) ∙ sym (ne_eqb a b o)

names_of_rows : (front names : List ℕ) → map (λ (r : ℕ). get_or (front ++ names) r 0) (count_up (length names) (length front)) ≡ names
unfolding count_up
names_of_rows front [] = refl
names_of_rows front (x ∷ names) =
    let again = names_of_rows (front ++ (x ∷ [])) names in
    let s : length (front ++ (x ∷ [])) ≡ suc (length front) = simp length-append (omega arith) in
    let a : front ++ (x ∷ []) ++ names ≡ front ++ x ∷ names = append_snoc front x names in
    rw (get_or-append_seam front x names 0) (ap (λ (l : List ℕ). x ∷ l) (rw (s, a) at again))

-- ---- the order
module _ (names : List ℕ) (d : Distinct names) where
  abbrev n : ℕ
  n = length names

  abbrev name : ℕ → ℕ
  name r = get_or names r 0

  abbrev call : Arc → Arc
  call e = arc (name e.from) (name e.to)

  live_named : (es : List Arc) → live names es ≡ map call (live (upto n) (map (row_arc names) es))
  unfolding row_arc
  live_named [] = refl
  live_named (e ∷ es) =
      rw (row_live names e.from, row_live names e.to, among_upto n (row_of names e.from), among_upto n (row_of names e.to))
      (go (dec_lt (row_of names e.from) n) (dec_lt (row_of names e.to) n) (live_named es))
    where
      Same : Bool → Type 0
      Same b = cond b (e ∷ (live names es)) (live names es) ≡ map call (cond b ((row_arc names e) ∷ (live (upto n) (map (row_arc names) es))) (live (upto n) (map (row_arc names) es)))

      go : Dec (row_of names e.from < n) → Dec (row_of names e.to < n) → live names es ≡ map call (live (upto n) (map (row_arc names) es))
          → Same (ltb (row_of names e.from) n && ltb (row_of names e.to) n)
      go (yes a) (yes b) ih =
          let p : call (row_arc names e) ≡ e = λ i. arc ((row_back names e.from a).1 i) ((row_back names e.to b).1 i) in
          rw (lt-ltb _ _ a, lt-ltb _ _ b, ← ih) (ap (λ (x : Arc). x ∷ live names es) (sym p))
      go (yes a) (no b) ih = let l : n ≤ row_of names e.to = omega arith in rw (lt-ltb _ _ a, le-ltb _ _ l) ih
      go (no a) b ih = let l : n ≤ row_of names e.from = omega arith in rw (le-ltb _ _ l) ih

  pub order_named : (es : List Arc) → order names es ≡ map name (order (upto n) (map (row_arc names) es))
  unfolding order
  order_named es =
      let rs = live (upto n) (map (row_arc names) es) in
      let small : (x : ℕ) → In x (upto n) → x < n = upto_in n in
      let between : (e : Arc) → In e rs → (e.from < n) × (e.to < n) = λ e m.
      let t = (in_filter _ (map (row_arc names) es) e m).1 in
      let a = among e.from (upto n) in
      let b = among e.to (upto n) in
      (upto_in n e.from (among_in e.from (upto n) (and_left a b t)), upto_in n e.to (among_in e.to (upto n) (and_right a b t))) in
      let first : filter (λ v. not (fed v (map call rs))) names ≡ map name (filter (λ v. not (fed v rs)) (upto n)) =
      ap (filter (λ v. not (fed v (map call rs)))) (sym (names_of_rows [] names))
      ∙ filter_map_in name _ _ (upto n) (λ v m. ap not (fed_named name n (rows_apart names d) rs v between (small v m))) in
      rw (live_named es, first, length_upto n)
      (walk_named name n (rows_apart names d) n (filter (λ v. not (fed v rs)) (upto n)) rs (λ x m. small x (in_filter _ (upto n) x m).0) between)

  pub whole_named : (es : List Arc) → whole names es ≡ whole (upto n) (map (row_arc names) es)
  unfolding whole
  whole_named es = rw (order_named es, length-map (order (upto n) (map (row_arc names) es)) name, length_upto n)
