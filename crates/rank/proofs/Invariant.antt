-- Where the order has all rows, each edge between live rows goes up in it.
use Prim.Native.Nat.{ℕ, zero, suc, ◌+◌, ◌-◌, ◌≤◌, ◌<◌}
use native.Mathlib.Omega.{arith}
use native.Mathlib.Nat.{le_refl, not-suc-le-zero, zero-add}
use native.Mathlib.Decide.{ℕ_discrete, dec_lt}
use mathlib.Core.Path.{◌≡◌, refl, sym, ap, subst, ◌∙◌}
use mathlib.Core.Logic.{◌≢◌, ◌⊎◌, inl, inr, ⊎_elim}
use mathlib.Core.List.{List, [], ◌∷◌, ◌++◌}
use mathlib.Core.Bool.{Bool, true, false, ◌&&◌, ◌||◌, not, or-true, or-false, false≢true}
use borrow.Author.Tests.{eq-eqb, ne_eqb, lt-ltb}
use lib.Dec.{eqb, ltb}
use lib.ListN.{length, take, get_or, length-append, get_or-append}
use lib.Seq.{take-append-le, take-suc, get_or-append_seam, take-append_seam}
use Rattle.std.proofs.lemmas.Bool.{false_from_ne_true}
use Rattle.lists.proofs.Member.{at_in}
use Rattle.lists.specs.Count.{more}
use Rattle.std.specs.Prelude.{cond}
use Rattle.rank.specs.Order.{Arc, among, upto}
use Rattle.lists.specs.Member.{In}
use Rattle.rank.specs.Parts.{indeg, degs, ready, St, app, fall, pick_st, serve, run, start, order_rows}
use Rattle.rank.specs.Cycle.{Distinct, Before, Sorted}
use Rattle.rank.proofs.Laws.{length_degs, get_d_degs}
use Rattle.rank.proofs.Serve.{zeros_lt, run_step, run_done, zero_run, ready_below}
use Rattle.rank.proofs.Cycle.{in_upto, upto_in, opens, cnt, among_snoc, opens_none, fall_count, fall_long, in_range, Begins, begins_fall, Good, run_good, good_start}

-- no edge is open: each source is in q
opens_zero : (n : ℕ) (q : List ℕ) (es : List Arc) (v : ℕ) → opens n q es v ≡ 0 → (e : Arc) → In e es → e.from < n → e.to ≡ v → among e.from q ≡ true
unfolding opens
opens_zero n q [] v z e m f t = absurd m
opens_zero n q (x ∷ es) v z e m f t = ⊎_elim here (λ r. opens_zero n q es v (rest ((ltb x.from n && eqb x.to v) && not (among x.from q)) z) e r f t) m
  where
    rest : (b : Bool) → more b (opens n q es v) ≡ 0 → opens n q es v ≡ 0
    rest true h = absurd (omega arith)
    rest false h = h

    go : (m : Bool) → more (not m) (opens n q es v) ≡ 0 → m ≡ true
    go true h = refl
    go false h = absurd (omega arith)

    here : e ≡ x → among e.from q ≡ true
    here p =
        let z' = rw (← p) at z in
        go (among e.from q) (rw (lt-ltb _ _ f, eq-eqb _ _ t) at z')

-- the edges of a row that is not in q are open until it is
opens_less : (n : ℕ) (q : List ℕ) (w : ℕ) → w < n → among w q ≡ false → (es : List Arc) (v : ℕ) → opens n (q ++ (w ∷ [])) es v + cnt w es v ≤ opens n q es v
unfolding opens cnt
opens_less n q w hw o [] v = omega arith
opens_less n q w hw o (e ∷ es) v = rw (among_snoc e.from q w) (at (ℕ_discrete e.from w) (opens_less n q w hw o es v))
  where
    same : (t : Bool) → opens n (q ++ (w ∷ [])) es v + cnt w es v ≤ opens n q es v
        → more (t && false) (opens n (q ++ (w ∷ [])) es v) + more t (cnt w es v) ≤ more (t && true) (opens n q es v)
    same true h = omega arith
    same false h = omega arith

    other : (a m : Bool) → opens n (q ++ (w ∷ [])) es v + cnt w es v ≤ opens n q es v
        → more (a && not (m || false)) (opens n (q ++ (w ∷ [])) es v) + cnt w es v ≤ more (a && not m) (opens n q es v)
    other true true h = omega arith
    other true false h = omega arith
    other false m h = omega arith

    at : Dec (e.from ≡ w) → opens n (q ++ (w ∷ [])) es v + cnt w es v ≤ opens n q es v
        → more ((ltb e.from n && eqb e.to v) && not (among e.from q || eqb e.from w)) (opens n (q ++ (w ∷ [])) es v) + more (eqb e.from w && eqb e.to v) (cnt w es v)
        ≤ more ((ltb e.from n && eqb e.to v) && not (among e.from q)) (opens n q es v)
    at (yes p) h = rw (p, lt-ltb w n hw, o, eq-eqb w w refl) (same (eqb e.to v) h)
    at (no p) h = rw (ne_eqb e.from w p) (other (ltb e.from n && eqb e.to v) (among e.from q) h)

-- ---- a queue of rows, each once, each after the sources of its edges
abbrev pub OkAt : ℕ → List Arc → ℕ → List ℕ → Type 0
OkAt n es x before = (x < n) × (among x before ≡ false) × ((e : Arc) → In e es → e.from < n → e.to ≡ x → among e.from before ≡ true)

unfoldable pub Ok : ℕ → List Arc → List ℕ → Type 0
Ok n es q = (j : ℕ) → j < length q → OkAt n es (get_or q j 0) (take j q)

ok_snoc : (n : ℕ) (es : List Arc) (q : List ℕ) (t : ℕ) → Ok n es q → OkAt n es t q → Ok n es (q ++ (t ∷ []))
unfolding Ok
ok_snoc n es q t ok h j l = go (ℕ_discrete j (length q))
  where
    go : Dec (j ≡ length q) → OkAt n es (get_or (q ++ (t ∷ [])) j 0) (take j (q ++ (t ∷ [])))
    go (yes p) = rw (p, get_or-append_seam q t [] 0, take-append_seam q (t ∷ [])) h
    go (no p) =
        let lt : j < length q = omega (arith, (simp length-append at l)) in
        let le : j ≤ length q = omega arith in
        rw (get_or-append q (t ∷ []) 0 j lt, take-append-le j q (t ∷ []) le) (ok j lt)

fall_cases : (t : ℕ) (s : St) → ((fall t s).queue ≡ s.queue) ⊎ ((get_or s.counts t 0 ≡ 1) × ((fall t s).queue ≡ s.queue ++ (t ∷ [])))
unfolding fall
fall_cases t s = go (ℕ_discrete (get_or s.counts t 0) 1)
  where
    go : Dec (get_or s.counts t 0 ≡ 1) → (app (eqb (get_or s.counts t 0) 1) s.queue t ≡ s.queue) ⊎ ((get_or s.counts t 0 ≡ 1) × (app (eqb (get_or s.counts t 0) 1) s.queue t ≡ s.queue ++ (t ∷ [])))
    go (yes e) = inr (e, rw (eq-eqb _ _ e))
    go (no o) = inl (rw (ne_eqb (get_or s.counts t 0) 1 o))

-- ---- while the row w is served: `rest` is what is left of its edges, and q what is served with it
record Mid (n : ℕ) (es : List Arc) (q : List ℕ) (k w : ℕ) (rest : List Arc) (s : St) : Type 0 where
  long : length s.counts ≡ n
  least : (v : ℕ) → v < n → opens n q es v + cnt w rest v ≤ get_or s.counts v 0
  zero_in : (v : ℕ) → among v s.queue ≡ true → get_or s.counts v 0 ≡ 0
  ok : Ok n es s.queue
  begins : Begins q k s

among_take : (x : ℕ) (k : ℕ) (l : List ℕ) → among x (take k l) ≡ true → among x l ≡ true
unfolding among
among_take x zero l h = absurd (false≢true h)
among_take x (suc k) [] h = h
among_take x (suc k) (y ∷ l) h = go (eqb x y) h (among_take x k l)
  where
    go : (b : Bool) → (b || among x (take k l)) ≡ true → (among x (take k l) ≡ true → among x l ≡ true) → (b || among x l) ≡ true
    go true h ih = refl
    go false h ih = ih h

module _ (n : ℕ) (es : List Arc) (q : List ℕ) (k w : ℕ) where
  mid_fall : (e : Arc) (rest : List Arc) (s : St) → e.from ≡ w → Mid n es q k w (e ∷ rest) s → Mid n es q k w rest (fall e.to s)
  unfolding cnt Begins
  mid_fall e rest s p m =
      record {
        long = fall_long e.to s ∙ m.long;
        least = λ v lt. rw (fall_count e.to s v) (low v (eqb e.to v) (rw (eq-eqb _ _ p) at (m.least v lt)));
        zero_in = λ v. in₀ v (fall_cases e.to s);
        ok = queue_ok (fall_cases e.to s);
        begins = begins_fall q k e.to s m.begins;
      }
    where
      t : ℕ
      t = e.to

      low : (v : ℕ) (b : Bool) → opens n q es v + more b (cnt w rest v) ≤ get_or s.counts v 0 → opens n q es v + cnt w rest v ≤ get_or s.counts v 0 - more b 0
      low v true h = omega arith
      low v false h = omega arith

      in₀ : (v : ℕ) → ((fall t s).queue ≡ s.queue) ⊎ ((get_or s.counts t 0 ≡ 1) × ((fall t s).queue ≡ s.queue ++ (t ∷ []))) → among v (fall t s).queue ≡ true → get_or (fall t s).counts v 0 ≡ 0
      in₀ v (inl r) h = omega (arith, fall_count t s v, m.zero_in v (rw r at h))
      in₀ v (inr r) h = two (ℕ_discrete v t)
        where
          two : Dec (v ≡ t) → get_or (fall t s).counts v 0 ≡ 0
          two (yes z) = rw z (omega (arith, (rw (eq-eqb t t refl) at (fall_count t s t)), r.0))
          two (no z) = omega (arith, fall_count t s v, m.zero_in v (sym (or-false (among v s.queue)) ∙ (rw (r.1, among_snoc v s.queue t, ne_eqb v t z) at h)))

      queue_ok : ((fall t s).queue ≡ s.queue) ⊎ ((get_or s.counts t 0 ≡ 1) × ((fall t s).queue ≡ s.queue ++ (t ∷ []))) → Ok n es (fall t s).queue
      queue_ok (inl r) = rw r m.ok
      queue_ok (inr r) =
          let lt : t < n = omega (arith, in_range s.counts t (λ z. omega (arith, r.0)), m.long) in
          let z : opens n q es t ≡ 0 = omega (arith, (rw (eq-eqb _ _ p, eq-eqb t t refl) at (m.least t lt)), r.0) in
          rw r.1 (ok_snoc n es s.queue t m.ok (
            lt,
            false_from_ne_true (among t s.queue) (λ h. omega (arith, m.zero_in t h, r.0)),
            λ e' m' f' t'. among_take e'.from k s.queue (rw m.begins.1 (opens_zero n q es t z e' m' f' t')),
          ))

  mid_skip : (e : Arc) (rest : List Arc) (s : St) → e.from ≢ w → Mid n es q k w (e ∷ rest) s → Mid n es q k w rest s
  unfolding cnt
  mid_skip e rest s o m =
      record { long = m.long; least = λ v lt. rw (ne_eqb e.from w o) at (m.least v lt); zero_in = m.zero_in; ok = m.ok; begins = m.begins }

  mid_serve : (rest : List Arc) (s : St) → Mid n es q k w rest s → Mid n es q k w [] (serve w rest s)
  unfolding serve
  mid_serve [] s m = m
  mid_serve (e ∷ rest) s m = mid_serve rest (pick_st (eqb e.from w) (fall e.to s) s) (go (ℕ_discrete e.from w))
    where
      go : Dec (e.from ≡ w) → Mid n es q k w rest (pick_st (eqb e.from w) (fall e.to s) s)
      go (yes p) = rw (eq-eqb _ _ p) (mid_fall e rest s p m)
      go (no o) = rw (ne_eqb e.from w o) (mid_skip e rest s o m)

-- ---- the state after h rows
pub record Invariant (n : ℕ) (es : List Arc) (h : ℕ) (s : St) : Type 0 where
  pub long : length s.counts ≡ n
  pub least : (v : ℕ) → v < n → opens n (take h s.queue) es v ≤ get_or s.counts v 0
  pub zero_in : (v : ℕ) → among v s.queue ≡ true → get_or s.counts v 0 ≡ 0
  pub ok : Ok n es s.queue

pub invariant_next : (n : ℕ) (es : List Arc) (h : ℕ) (s : St) → h < length s.queue → Invariant n es h s → Invariant n es (suc h) (serve (get_or s.queue h 0) es s)
unfolding Ok Begins cnt
invariant_next n es h s l g =
    let w = get_or s.queue h 0 in
    let a = g.ok h l in
    let m = mid_serve n es (take h s.queue ++ (w ∷ [])) (suc h) w es s
    (record {
      long = g.long;
      least = λ v lt. omega (arith, g.least v lt, opens_less n (take h s.queue) w a.0 a.1 es v);
      zero_in = g.zero_in;
      ok = g.ok;
      begins = (l, take-suc s.queue h 0 l);
    }) in
    record { long = m.long; least = λ v lt. rw m.begins.1 (omega (arith, m.least v lt)); zero_in = m.zero_in; ok = m.ok }

invariant_past : (n : ℕ) (es : List Arc) (k h : ℕ) (s : St) → Invariant n es h s → (s' : St) × (run k es h s ≡ s'.queue) × Ok n es s'.queue
invariant_past n es zero h s g = (s, run_zero, g.ok)
  where
    run_zero : run zero es h s ≡ s.queue
    run_zero = zero_run es h s
invariant_past n es (suc k) h s g = go (dec_lt h (length s.queue)) (invariant_past n es k (suc h) (serve (get_or s.queue h 0) es s))
  where
    go : Dec (h < length s.queue) → (Invariant n es (suc h) (serve (get_or s.queue h 0) es s) → (s' : St) × (run k es (suc h) (serve (get_or s.queue h 0) es s) ≡ s'.queue) × Ok n es s'.queue)
        → (s' : St) × (run (suc k) es h s ≡ s'.queue) × Ok n es s'.queue
    go (yes l) ih = let r = ih (invariant_next n es h s l g) in (r.0, run_step k es h s l ∙ r.1, r.2)
    go (no o) ih = let l : length s.queue ≤ h = omega arith in (s, run_done (suc k) es h s l, g.ok)

-- ---- the start
ready_above : (cs : List ℕ) (v j : ℕ) → j < length (ready cs v) → v ≤ get_or (ready cs v) j 0
unfolding ready
ready_above [] v j h = absurd (not-suc-le-zero h)
ready_above (c ∷ cs) v j h = go (ready_above cs (suc v)) (eqb c 0) j h
  where
    go : ((j : ℕ) → j < length (ready cs (suc v)) → suc v ≤ get_or (ready cs (suc v)) j 0) → (b : Bool) (j : ℕ) → j < length (cond b (v ∷ (ready cs (suc v))) (ready cs (suc v))) → v ≤ get_or (cond b (v ∷ (ready cs (suc v))) (ready cs (suc v))) j 0
    go ih true zero h = le_refl v
    go ih true (suc j) h = omega (arith, ih j (omega arith))
    go ih false j h = omega (arith, ih j h)

ready_fresh : (cs : List ℕ) (v j : ℕ) → j < length (ready cs v) → among (get_or (ready cs v) j 0) (take j (ready cs v)) ≡ false
unfolding ready among
ready_fresh [] v j h = absurd (not-suc-le-zero h)
ready_fresh (c ∷ cs) v j h = go (ready_fresh cs (suc v)) (eqb c 0) j h
  where
    go : ((j : ℕ) → j < length (ready cs (suc v)) → among (get_or (ready cs (suc v)) j 0) (take j (ready cs (suc v))) ≡ false)
        → (b : Bool) (j : ℕ) → j < length (cond b (v ∷ (ready cs (suc v))) (ready cs (suc v))) → among (get_or (cond b (v ∷ (ready cs (suc v))) (ready cs (suc v))) j 0) (take j (cond b (v ∷ (ready cs (suc v))) (ready cs (suc v)))) ≡ false
    go ih true zero h = refl
    go ih true (suc j) h =
        let lt : j < length (ready cs (suc v)) = omega arith in
        rw (ne_eqb (get_or (ready cs (suc v)) j 0) v (λ z. omega (arith, ready_above cs (suc v) j lt))) (ih j lt)
    go ih false j h = ih j h

-- a row that is ready has a count of 0
ready_zero : (cs : List ℕ) (v x : ℕ) → among x (ready cs v) ≡ true → (v ≤ x) × (get_or cs (x - v) 0 ≡ 0)
unfolding ready among
ready_zero [] v x h = absurd (false≢true h)
ready_zero (c ∷ cs) v x h = go (ready_zero cs (suc v) x) (ℕ_discrete c 0) (ℕ_discrete x v) h
  where
    up : (suc v ≤ x) × (get_or cs (x - suc v) 0 ≡ 0) → (v ≤ x) × (get_or (c ∷ cs) (x - v) 0 ≡ 0)
    up r = let z : x - v ≡ suc (x - suc v) = omega (arith, r.0) in (omega (arith, r.0), rw z r.1)

    go : (among x (ready cs (suc v)) ≡ true → (suc v ≤ x) × (get_or cs (x - suc v) 0 ≡ 0)) → Dec (c ≡ 0) → Dec (x ≡ v) → among x (cond (eqb c 0) (v ∷ (ready cs (suc v))) (ready cs (suc v))) ≡ true
        → (v ≤ x) × (get_or (c ∷ cs) (x - v) 0 ≡ 0)
    go ih (yes e) (yes p) h = let z : x - v ≡ 0 = omega arith in (omega arith, rw z e)
    go ih (yes e) (no p) h = up (ih (rw (eq-eqb c 0 e, ne_eqb x v p) at h))
    go ih (no e) d h = up (ih (rw (ne_eqb c 0 e) at h))

among_at : (q : List ℕ) (j : ℕ) → j < length q → among (get_or q j 0) q ≡ true
unfolding among
among_at [] j h = absurd (not-suc-le-zero h)
among_at (y ∷ q) zero h = rw (eq-eqb y y refl)
among_at (y ∷ q) (suc j) h = rw (among_at q j (omega arith), or-true (eqb (get_or q j 0) y))

pub invariant_start : (n : ℕ) (es : List Arc) → Invariant n es 0 (start n es)
unfolding start Ok among
invariant_start n es =
    record {
      long = length_degs n es n 0;
      least = λ v lt. rw (opens_none n es v, at v lt) (le_refl (indeg n es v));
      zero_in = λ v h. empty v h;
      ok = λ j l.
          let q = ready (degs n es n 0) 0 in
          let lt : get_or q j 0 < n = omega (arith, ready_below (degs n es n 0) 0 j l, length_degs n es n 0) in (
            lt,
            ready_fresh (degs n es n 0) 0 j l,
            λ e m f t. absurd (false≢true (opens_zero n [] es (get_or q j 0) (opens_none n es (get_or q j 0) ∙ sym (at (get_or q j 0) lt) ∙ empty (get_or q j 0) (among_at q j l)) e m f t)),
          );
    }
  where
    at : (v : ℕ) → v < n → get_or (degs n es n 0) v 0 ≡ indeg n es v
    at v lt = get_d_degs n es n 0 v lt ∙ ap (indeg n es) (zero-add v)

    empty : (v : ℕ) → among v (ready (degs n es n 0) 0) ≡ true → get_or (degs n es n 0) v 0 ≡ 0
    empty v h = let z : v - 0 ≡ v = omega arith in rw z at (ready_zero (degs n es n 0) 0 v h).1

-- ---- the order, whole or not: indices, each once, each after the sources of its arcs
pub among_in : (x : ℕ) (l : List ℕ) → among x l ≡ true → In x l
unfolding among
among_in x [] h = absurd (false≢true h)
among_in x (y ∷ l) h = go (ℕ_discrete x y) (among_in x l)
  where
    go : Dec (x ≡ y) → (among x l ≡ true → In x l) → In x (y ∷ l)
    go (yes p) ih = inl p
    go (no o) ih = inr (ih (rw (ne_eqb x y o) at h))

pub in_among : (x : ℕ) (l : List ℕ) → In x l → among x l ≡ true
unfolding among
in_among x [] m = absurd m
in_among x (y ∷ l) (inl p) = rw (eq-eqb x y p)
in_among x (y ∷ l) (inr m) = rw (in_among x l m, or-true (eqb x y))

pub in_at : (x : ℕ) (l : List ℕ) → In x l → (j : ℕ) × (j < length l) × (get_or l j 0 ≡ x)
in_at x [] m = absurd m
in_at x (y ∷ l) (inl p) = (0, omega arith, sym p)
in_at x (y ∷ l) (inr m) = let r = in_at x l m in (suc r.0, omega (arith, r.1), r.2)

or_no : (a b : Bool) → (a || b) ≡ false → b ≡ false
or_no true b h = absurd (false≢true (sym h))
or_no false b h = h

-- each is new when it comes: none is there twice
fresh_distinct : (q : List ℕ) → ((j : ℕ) → j < length q → among (get_or q j 0) (take j q) ≡ false) → Distinct q
unfolding among
fresh_distinct [] h = tt
fresh_distinct (x ∷ q) h = (
  false_from_ne_true (among x q) (λ t. let r = in_at x q (among_in x q t) in
      false≢true (sym (h (suc r.0) (omega (arith, r.1))) ∙ rw (eq-eqb (get_or q r.0 0) x r.2))),
  fresh_distinct q (λ j l. or_no (eqb (get_or q j 0) x) (among (get_or q j 0) (take j q)) (h (suc j) (omega arith))),
)

before_at : (q : List ℕ) (j x : ℕ) → j < length q → among x (take j q) ≡ true → Before x (get_or q j 0) q
unfolding among
before_at [] j x l h = absurd (not-suc-le-zero l)
before_at (y ∷ q) zero x l h = absurd (false≢true h)
before_at (y ∷ q) (suc j) x l h = go (ℕ_discrete x y) (before_at q j x (omega arith))
  where
    go : Dec (x ≡ y) → (among x (take j q) ≡ true → Before x (get_or q j 0) q) → Before x (get_or q j 0) (y ∷ q)
    go (yes p) ih = inl (p, at_in q j (omega arith))
    go (no o) ih = inr (ih (rw (ne_eqb x y o) at h))

module _ (n : ℕ) (es : List Arc) where
  rows_ok : Ok n es (order_rows n es)
  unfolding order_rows
  rows_ok = let b = invariant_past n es n 0 (start n es) (invariant_start n es) in subst (Ok n es) (sym b.1) b.2

  pub rows_only : (x : ℕ) → In x (order_rows n es) → In x (upto n)
  unfolding Ok
  rows_only x m = let r = in_at x (order_rows n es) m in in_upto n x (subst (λ (y : ℕ). y < n) r.2 (rows_ok r.0 r.1).0)

  pub rows_once : Distinct (order_rows n es)
  unfolding Ok
  rows_once = fresh_distinct (order_rows n es) (λ j l. (rows_ok j l).1)

  -- where there are as many as indices, every index is there
  pub rows_every : length (order_rows n es) ≡ n → (x : ℕ) → In x (upto n) → In x (order_rows n es)
  unfolding order_rows
  rows_every h x m = among_in x (order_rows n es) (subst (λ (q : List ℕ). among x q ≡ true) (sym a.1) (go (ℕ_discrete (get_or a.0.counts x 0) 0)))
    where
      a : (s' : St) × (run n es 0 (start n es) ≡ s'.queue) × Good n es (length s'.queue) s'
      a = run_good n es n 0 (start n es) (zero-add n) (good_start n es)

      go : Dec (get_or a.0.counts x 0 ≡ 0) → among x a.0.queue ≡ true
      go (yes z) = a.2.done x (upto_in n x m) z
      go (no o) = let lx : x < n = upto_in n x m in
          absurd (omega (arith, zeros_lt a.0.counts x (omega (arith, a.2.long)) o, a.2.long, a.2.empty, ap length a.1))

  pub rows_sorted : length (order_rows n es) ≡ n → Sorted (upto n) es (order_rows n es)
  unfolding Ok
  rows_sorted h = record {
    every = rows_every h;
    only = rows_only;
    once = rows_once;
    sources_first = λ e m f t.
        let r = in_at e.to (order_rows n es) (rows_every h e.to t) in
        subst (λ (y : ℕ). Before e.from y (order_rows n es)) r.2
        (before_at (order_rows n es) r.0 e.from r.1 ((rows_ok r.0 r.1).2 e m (upto_in n e.from f) (sym r.2)));
  }
