-- Where the order is shorter than the rows, there is a cycle.
use Prim.Native.Nat.{ℕ, zero, suc, ◌+◌, ◌-◌, ◌≤◌, ◌<◌}
use native.Mathlib.Omega.{arith}
use native.Mathlib.Nat.{le_refl, not-suc-le-zero, zero-add}
use native.Mathlib.Decide.{ℕ_discrete, dec_lt}
use mathlib.Core.Path.{◌≡◌, refl, sym, ap, subst, ◌∙◌}
use mathlib.Core.Logic.{◌≢◌, inl, inr}
use mathlib.Core.List.{List, [], ◌∷◌, ◌++◌, append-nil}
use mathlib.Core.Bool.{Bool, true, false, ◌&&◌, ◌||◌, not, and-true, or-true, false≢true, or-false}
use borrow.Author.Tests.{eq-eqb, ne_eqb, eqb-true, ltb-true}
use lib.Dec.{eqb, ltb}
use lib.ListN.{length, take, get_or, set, length-append, length-set, get_or-eq_default, replicate, length-replicate, get_or-replicate}
use lib.Seq.{get_or-set_other, take-append-le, take-suc, take_all}
use Rattle.lists.specs.Count.{more}
use Rattle.std.specs.Prelude.{cond}
use Rattle.rank.specs.Order.{Arc, among, count_up, upto}
use Rattle.lists.specs.Member.{In}
use Rattle.rank.specs.Parts.{indeg, degs, ready, St, app, fall, pick_st, serve, run, start, order_rows}
use Rattle.rank.specs.Cycle.{Walk, step, then, Cyclic}
use Rattle.rank.proofs.Laws.{length_degs, get_d_degs}
use Rattle.rank.proofs.Serve.{zeros, zeros_le, zeros_lt, zeros_one, zeros_more, ready_length, run_step, run_done, fall_zero}

-- ---- the indices below n
pub in_count : (k i x : ℕ) → i ≤ x → x < i + k → In x (count_up k i)
unfolding count_up
in_count zero i x h l = absurd (omega arith)
in_count (suc k) i x h l = go (ℕ_discrete x i) (in_count k (suc i) x)
  where
    go : Dec (x ≡ i) → (suc i ≤ x → x < suc i + k → In x (count_up k (suc i))) → In x (i ∷ count_up k (suc i))
    go (yes p) ih = inl p
    go (no o) ih = inr (ih (omega arith) (omega arith))

pub in_upto : (n x : ℕ) → x < n → In x (upto n)
in_upto n x h = in_count n 0 x (omega arith) (omega arith)

pub count_in : (k i x : ℕ) → In x (count_up k i) → (i ≤ x) × (x < i + k)
unfolding count_up
count_in zero i x m = absurd m
count_in (suc k) i x (inl p) = (omega arith, omega arith)
count_in (suc k) i x (inr m) = let r = count_in k (suc i) x m in (omega arith, omega arith)

pub upto_in : (n x : ℕ) → In x (upto n) → x < n
upto_in n x m = omega (arith, count_in n 0 x m)

pub among_snoc : (x : ℕ) (q : List ℕ) (v : ℕ) → among x (q ++ (v ∷ [])) ≡ (among x q || eqb x v)
unfolding among
among_snoc x [] v = or-false (eqb x v)
among_snoc x (y ∷ q) v = go (eqb x y) (among_snoc x q v)
  where
    go : (b : Bool) → among x (q ++ (v ∷ [])) ≡ (among x q || eqb x v) → (b || among x (q ++ (v ∷ []))) ≡ ((b || among x q) || eqb x v)
    go true e = refl
    go false e = e

-- how many edges go from a live row that is not in q to v
unfoldable pub opens : ℕ → List ℕ → List Arc → ℕ → ℕ
opens n q [] v = zero
opens n q (e ∷ es) v = more ((ltb e.from n && eqb e.to v) && not (among e.from q)) (opens n q es v)

pub opens_none : (n : ℕ) (es : List Arc) (v : ℕ) → opens n [] es v ≡ indeg n es v
unfolding opens indeg among
opens_none n [] v = refl
opens_none n (e ∷ es) v = rw (and-true (ltb e.from n && eqb e.to v), opens_none n es v)

-- how many edges go from w to v
unfoldable pub cnt : ℕ → List Arc → ℕ → ℕ
cnt w [] v = zero
cnt w (e ∷ es) v = more (eqb e.from w && eqb e.to v) (cnt w es v)

opens_more : (n : ℕ) (q : List ℕ) (w : ℕ) (es : List Arc) (v : ℕ) → opens n q es v ≤ opens n (q ++ (w ∷ [])) es v + cnt w es v
unfolding opens cnt
opens_more n q w [] v = omega arith
opens_more n q w (e ∷ es) v =
    rw (among_snoc e.from q w) (go (ltb e.from n) (eqb e.to v) (among e.from q) (eqb e.from w) (opens_more n q w es v))
  where
    go : (l t m b : Bool) → opens n q es v ≤ opens n (q ++ (w ∷ [])) es v + cnt w es v
        → more ((l && t) && not m) (opens n q es v) ≤ more ((l && t) && not (m || b)) (opens n (q ++ (w ∷ [])) es v) + more (b && t) (cnt w es v)
    go true true true true h = omega arith
    go true true true false h = omega arith
    go true true false true h = omega arith
    go true true false false h = omega arith
    go true false true true h = omega arith
    go true false true false h = omega arith
    go true false false true h = omega arith
    go true false false false h = omega arith
    go false true true true h = omega arith
    go false true true false h = omega arith
    go false true false true h = omega arith
    go false true false false h = omega arith
    go false false true true h = omega arith
    go false false true false h = omega arith
    go false false false true h = omega arith
    go false false false false h = omega arith

-- an open edge
opens_one : (n : ℕ) (q : List ℕ) (es : List Arc) (v : ℕ) → 0 < opens n q es v
    → (e : Arc) × (In e es) × (e.from < n) × (e.to ≡ v) × (among e.from q ≡ false)
unfolding opens
opens_one n q [] v h = absurd (not-suc-le-zero h)
opens_one n q (e ∷ es) v h = go (ltb e.from n) (eqb e.to v) (among e.from q) refl refl refl h (opens_one n q es v)
  where
    Found : Type 0
    Found = (e' : Arc) × (In e' (e ∷ es)) × (e'.from < n) × (e'.to ≡ v) × (among e'.from q ≡ false)

    Rest : Type 0
    Rest = (e' : Arc) × (In e' es) × (e'.from < n) × (e'.to ≡ v) × (among e'.from q ≡ false)

    up : Rest → Found
    up r = (r.0, inr r.1, r.2, r.3, r.4)

    go : (l t m : Bool) → ltb e.from n ≡ l → eqb e.to v ≡ t → among e.from q ≡ m → 0 < more ((l && t) && not m) (opens n q es v)
        → (0 < opens n q es v → Rest) → Found
    go true true false a b c h r = (e, inl refl, ltb-true _ _ a, eqb-true _ _ b, c)
    go true true true a b c h r = up (r h)
    go true false m a b c h r = up (r h)
    go false t m a b c h r = up (r h)

-- ---- one edge
less_at : (c : List ℕ) (t : ℕ) → get_or (set c t (get_or c t 0 - 1)) t 0 ≡ get_or c t 0 - 1
less_at [] t = refl
less_at (x ∷ c) zero = refl
less_at (x ∷ c) (suc t) = less_at c t

pub fall_count : (t : ℕ) (s : St) (v : ℕ) → get_or (fall t s).counts v 0 ≡ get_or s.counts v 0 - more (eqb t v) 0
unfolding fall
fall_count t s v = go (ℕ_discrete v t)
  where
    go : Dec (v ≡ t) → get_or (set s.counts t (get_or s.counts t 0 - 1)) v 0 ≡ get_or s.counts v 0 - more (eqb t v) 0
    go (yes e) = rw (e, eq-eqb t t refl) (less_at s.counts t)
    go (no o) = rw (get_or-set_other s.counts t v (get_or s.counts t 0 - 1) 0 o, ne_eqb t v (λ z. o (sym z))) (omega arith)

pub fall_long : (t : ℕ) (s : St) → length (fall t s).counts ≡ length s.counts
unfolding fall
fall_long t s = length-set s.counts t (get_or s.counts t 0 - 1)

-- the queue only grows, and a row whose count reaches 0 is in it
fall_queue : (t : ℕ) (s : St) → (r : List ℕ) × ((fall t s).queue ≡ s.queue ++ r)
unfolding fall
fall_queue t s = go (eqb (get_or s.counts t 0) 1)
  where
    go : (b : Bool) → (r : List ℕ) × (app b s.queue t ≡ s.queue ++ r)
    go true = (t ∷ [], refl)
    go false = ([], sym (append-nil s.queue))

pub among_append : (x : ℕ) (q r : List ℕ) → among x q ≡ true → among x (q ++ r) ≡ true
unfolding among
among_append x [] r h = absurd (false≢true h)
among_append x (y ∷ q) r h = go (eqb x y) h (among_append x q r)
  where
    go : (b : Bool) → (b || among x q) ≡ true → (among x q ≡ true → among x (q ++ r) ≡ true) → (b || among x (q ++ r)) ≡ true
    go true h ih = refl
    go false h ih = ih h

pub among_last : (q : List ℕ) (t : ℕ) → among t (q ++ (t ∷ [])) ≡ true
among_last q t = among_snoc t q t ∙ rw (eq-eqb t t refl, or-true (among t q))

fall_last : (t : ℕ) (s : St) → get_or s.counts t 0 ≡ 1 → among t (fall t s).queue ≡ true
unfolding fall
fall_last t s e = rw (eq-eqb _ _ e) (among_last s.queue t)

fall_done : (t : ℕ) (s : St) (v : ℕ) → (get_or s.counts v 0 ≡ 0 → among v s.queue ≡ true) → get_or (fall t s).counts v 0 ≡ 0 → among v (fall t s).queue ≡ true
fall_done t s v d z = go (ℕ_discrete (get_or s.counts v 0) 0) (ℕ_discrete t v)
  where
    go : Dec (get_or s.counts v 0 ≡ 0) → Dec (t ≡ v) → among v (fall t s).queue ≡ true
    go (yes e) k = rw (fall_queue t s).1 (among_append v s.queue (fall_queue t s).0 (d e))
    go (no o) (no k) = absurd (o (omega (arith, (rw (ne_eqb t v k) at (fall_count t s v)))))
    go (no o) (yes k) =
        let e : get_or s.counts v 0 ≡ 1 = omega (arith, (rw (eq-eqb t v k) at (fall_count t s v))) in
        subst (λ (x : ℕ). among x (fall t s).queue ≡ true) k (fall_last t s (ap (λ (x : ℕ). get_or s.counts x 0) k ∙ e))

pub in_range : (c : List ℕ) (t : ℕ) → get_or c t 0 ≢ 0 → t < length c
in_range c t o = go (dec_lt t (length c))
  where
    go : Dec (t < length c) → t < length c
    go (yes h) = h
    go (no h) = let l : length c ≤ t = omega arith in absurd (o (get_or-eq_default c 0 l))

fall_empty : (t : ℕ) (s : St) → zeros s.counts ≡ length s.queue → zeros (fall t s).counts ≡ length (fall t s).queue
unfolding fall
fall_empty t s h = go (ℕ_discrete (get_or s.counts t 0) 0) (ℕ_discrete (get_or s.counts t 0) 1)
  where
    go : Dec (get_or s.counts t 0 ≡ 0) → Dec (get_or s.counts t 0 ≡ 1) → zeros (fall t s).counts ≡ length (fall t s).queue
    go (yes e) k = subst (λ (x : St). zeros x.counts ≡ length x.queue) (fall_zero t s e) h
    go (no o) (yes e) =
        rw (e, zeros_one s.counts t (in_range s.counts t o) o, length-append s.queue (t ∷ [])) (omega arith)
    go (no o) (no p) = rw (ne_eqb (get_or s.counts t 0) 1 p, zeros_more s.counts t (get_or s.counts t 0 - 1) o (λ z. omega arith)) h

-- ---- all edges of a row
serve_count : (w : ℕ) (es : List Arc) (s : St) (v : ℕ) → get_or (serve w es s).counts v 0 ≡ get_or s.counts v 0 - cnt w es v
unfolding serve cnt
serve_count w [] s v = omega arith
serve_count w (e ∷ es) s v = go (eqb e.from w) (serve_count w es)
  where
    go : (b : Bool) → ((s : St) (v : ℕ) → get_or (serve w es s).counts v 0 ≡ get_or s.counts v 0 - cnt w es v)
        → get_or (serve w es (pick_st b (fall e.to s) s)).counts v 0 ≡ get_or s.counts v 0 - more (b && eqb e.to v) (cnt w es v)
    go false ih = ih s v
    go true ih = ih (fall e.to s) v ∙ rw (fall_count e.to s v) (at (eqb e.to v))
      where
        at : (t : Bool) → get_or s.counts v 0 - more t 0 - cnt w es v ≡ get_or s.counts v 0 - more t (cnt w es v)
        at true = omega arith
        at false = omega arith

-- what holds of a state and of a fall holds of the row's service
module _ (P : St → Type 0) (step : (t : ℕ) (s : St) → P s → P (fall t s)) where
  serve_keeps : (w : ℕ) (es : List Arc) (s : St) → P s → P (serve w es s)
  unfolding serve
  serve_keeps w [] s p = p
  serve_keeps w (e ∷ es) s p = serve_keeps w es (pick_st (eqb e.from w) (fall e.to s) s) (go (eqb e.from w))
    where
      go : (b : Bool) → P (pick_st b (fall e.to s) s)
      go true = step e.to s p
      go false = p

-- ---- the state after h rows
pub record Good (n : ℕ) (es : List Arc) (h : ℕ) (s : St) : Type 0 where
  pub long : length s.counts ≡ n
  pub empty : zeros s.counts ≡ length s.queue
  pub open_in : (v : ℕ) → v < n → get_or s.counts v 0 ≤ opens n (take h s.queue) es v
  pub done : (v : ℕ) → v < n → get_or s.counts v 0 ≡ 0 → among v s.queue ≡ true

-- the queue keeps what it begins with
unfoldable pub Begins : List ℕ → ℕ → St → Type 0
Begins q h s = (h ≤ length s.queue) × (take h s.queue ≡ q)

pub begins_fall : (q : List ℕ) (h t : ℕ) (s : St) → Begins q h s → Begins q h (fall t s)
unfolding Begins
begins_fall q h t s b =
    let f = fall_queue t s in
    rw f.1 (simp length-append (omega (arith, b.0)), take-append-le h s.queue f.0 b.0 ∙ b.1)

pub good_next : (n : ℕ) (es : List Arc) (h : ℕ) (s : St) → h < length s.queue → Good n es h s → Good n es (suc h) (serve (get_or s.queue h 0) es s)
unfolding Begins
good_next n es h s l g =
    let w = get_or s.queue h 0 in
    let b = serve_keeps (Begins (take h s.queue ++ (w ∷ [])) (suc h)) (begins_fall _ (suc h)) w es s (l, take-suc s.queue h 0 l) in
    record {
      long = serve_keeps (λ (x : St). length x.counts ≡ n) (λ t x p. fall_long t x ∙ p) w es s g.long;
      empty = serve_keeps (λ (x : St). zeros x.counts ≡ length x.queue) fall_empty w es s g.empty;
      open_in = λ v lt. rw (serve_count w es s v, b.1) (omega (arith, g.open_in v lt, opens_more n (take h s.queue) w es v));
      done = λ v lt. serve_keeps (λ (x : St). get_or x.counts v 0 ≡ 0 → among v x.queue ≡ true) (λ t x. fall_done t x v) w es s (g.done v lt);
    }

ready_among : (cs : List ℕ) (v i : ℕ) → i < length cs → get_or cs i 0 ≡ 0 → among (v + i) (ready cs v) ≡ true
unfolding ready among
ready_among [] v i h z = absurd (not-suc-le-zero h)
ready_among (c ∷ cs) v zero h z = let q : v + 0 ≡ v = omega arith in rw (eq-eqb c 0 z, eq-eqb (v + 0) v q)
ready_among (c ∷ cs) v (suc i) h z = go (eqb c 0) (ready_among cs (suc v) i (omega arith) z)
  where
    go : (b : Bool) → among (suc v + i) (ready cs (suc v)) ≡ true → among (v + suc i) (cond b (v ∷ (ready cs (suc v))) (ready cs (suc v))) ≡ true
    go true e =
        let q : v + suc i ≡ suc v + i = omega arith in
        let f : among (v + suc i) (ready cs (suc v)) ≡ true = rw q e in
        rw (f, or-true (eqb (v + suc i) v))
    go false e = let q : v + suc i ≡ suc v + i = omega arith in rw q e

pub good_start : (n : ℕ) (es : List Arc) → Good n es 0 (start n es)
unfolding start
good_start n es =
    record {
      long = length_degs n es n 0;
      empty = sym (ready_length (degs n es n 0) 0);
      open_in = λ v lt. let q : 0 + v ≡ v = zero-add v in rw (get_d_degs n es n 0 v lt, q, opens_none n es v) (le_refl (indeg n es v));
      done = λ v lt z. let q : 0 + v ≡ v = zero-add v in subst (λ (x : ℕ). among x (ready (degs n es n 0) 0) ≡ true) q (ready_among (degs n es n 0) 0 v (omega (arith, length_degs n es n 0)) z);
    }

good_past : (n : ℕ) (es : List Arc) (h : ℕ) (s : St) → length s.queue ≤ h → Good n es h s → Good n es (length s.queue) s
good_past n es h s l g =
    record {
      long = g.long;
      empty = g.empty;
      open_in = λ v lt. rw (take_all (length s.queue) s.queue (le_refl _)) (rw (take_all h s.queue l) at (g.open_in v lt));
      done = g.done;
    }

-- the run ends in such a state
pub run_good : (n : ℕ) (es : List Arc) (k h : ℕ) (s : St) → h + k ≡ n → Good n es h s → (s' : St) × (run k es h s ≡ s'.queue) × Good n es (length s'.queue) s'
run_good n es zero h s q g =
    let l : length s.queue ≤ h = omega (arith, zeros_le s.counts, g.empty, g.long) in
    (s, run_done zero es h s l, good_past n es h s l g)
run_good n es (suc k) h s q g = go (dec_lt h (length s.queue)) (run_good n es k (suc h) (serve (get_or s.queue h 0) es s) (omega arith))
  where
    End : Type 0
    End = (s' : St) × (run (suc k) es h s ≡ s'.queue) × Good n es (length s'.queue) s'

    Next : Type 0
    Next = (s' : St) × (run k es (suc h) (serve (get_or s.queue h 0) es s) ≡ s'.queue) × Good n es (length s'.queue) s'

    go : Dec (h < length s.queue) → (Good n es (suc h) (serve (get_or s.queue h 0) es s) → Next) → End
    go (yes l) ih = let r = ih (good_next n es h s l g) in (r.0, run_step k es h s l ∙ r.1, r.2)
    go (no o) ih = let l : length s.queue ≤ h = omega arith in (s, run_done (suc k) es h s l, good_past n es h s l g)

-- no more are queued than there are
pub rows_few : (n : ℕ) (es : List Arc) → length (order_rows n es) ≤ n
unfolding order_rows
rows_few n es =
    let r = run_good n es n 0 (start n es) (zero-add n) (good_start n es) in
    rw r.1 (omega (arith, zeros_le r.0.counts, r.2.empty, r.2.long))

pub nonzero : (c : List ℕ) → zeros c < length c → (v : ℕ) × (v < length c) × (get_or c v 0 ≢ 0)
unfolding zeros
nonzero [] h = absurd (not-suc-le-zero h)
nonzero (x ∷ c) h = go (ℕ_discrete x 0) h (nonzero c)
  where
    go : Dec (x ≡ 0) → more (eqb x 0) (zeros c) < suc (length c) → (zeros c < length c → (v : ℕ) × (v < length c) × (get_or c v 0 ≢ 0))
        → (v : ℕ) × (v < suc (length c)) × (get_or (x ∷ c) v 0 ≢ 0)
    go (no o) h ih = (0, omega arith, o)
    go (yes e) h ih = let r = ih (omega (arith, (rw (eq-eqb x 0 e) at h))) in (suc r.0, omega (arith, r.1), r.2)

-- of a row that is left, an edge comes from another that is left. So from a row that is left a walk goes back, until it comes to a row again
module _ (n : ℕ) (es : List Arc) (s : St) (g : Good n es (length s.queue) s) where
  open_left : (v : ℕ) → v < n → get_or s.counts v 0 ≤ opens n s.queue es v
  open_left v h = rw (take_all (length s.queue) s.queue (le_refl _)) at (g.open_in v h)

  source : (v : ℕ) → v < n → get_or s.counts v 0 ≢ 0 → (e : Arc) × (In e es) × (e.from < n) × (e.to ≡ v) × (get_or s.counts e.from 0 ≢ 0)
  source v h o =
      let e = opens_one n s.queue es v (omega (arith, open_left v h)) in
      (e.0, e.1, e.2, e.3, λ z. false≢true (sym e.4 ∙ g.done e.0.from e.2 z))

  -- the rows at which m is 0 have been come to; v is new, and a walk goes from it to each of them
  chase : (k : ℕ) (m : List ℕ) (v : ℕ) → length m ≡ n → zeros m + k ≡ n → v < n → get_or s.counts v 0 ≢ 0 → get_or m v 0 ≢ 0
      → ((x : ℕ) → x < n → get_or m x 0 ≡ 0 → Walk (upto n) es v x) → Cyclic (upto n) es
  chase zero m v lm zk h o new walks = absurd (omega (arith, zeros_lt m v (omega arith) new))
  chase (suc k) m v lm zk h o new walks = go (ℕ_discrete f v) (ℕ_discrete (get_or m f 0) 0)
      (chase k (set m v 0) f (length-set m v 0 ∙ lm) (omega (arith, zeros_one m v (omega arith) new)) e.2 e.4)
    where
      e : (e : Arc) × (In e es) × (e.from < n) × (e.to ≡ v) × (get_or s.counts e.from 0 ≢ 0)
      e = source v h o

      f : ℕ
      f = e.0.from

      one : Walk (upto n) es f v
      one = step e.0 e.1 (in_upto n e.0.from e.2) (in_upto n e.0.to (subst (λ (x : ℕ). x < n) (sym e.3) h)) refl e.3

      go : Dec (f ≡ v) → Dec (get_or m f 0 ≡ 0) → (get_or (set m v 0) f 0 ≢ 0 → ((x : ℕ) → x < n → get_or (set m v 0) x 0 ≡ 0 → Walk (upto n) es f x) → Cyclic (upto n) es) → Cyclic (upto n) es
      go (yes q) d r = record { at = v; back = subst (λ (x : ℕ). Walk (upto n) es x v) q one }
      go (no q) (yes d) r = record { at = f; back = then one (walks f e.2 d) }
      go (no q) (no d) r = r (λ z. d (sym (get_or-set_other m v f 0 0 q) ∙ z)) (λ x lx z. to x lx z (ℕ_discrete x v))
        where
          to : (x : ℕ) → x < n → get_or (set m v 0) x 0 ≡ 0 → Dec (x ≡ v) → Walk (upto n) es f x
          to x lx z (yes p) = subst (λ (y : ℕ). Walk (upto n) es f y) (sym p) one
          to x lx z (no p) = then one (walks x lx (sym (get_or-set_other m v x 0 0 p) ∙ z))

zeros_ones : (n : ℕ) → zeros (replicate n 1) ≡ 0
unfolding zeros
zeros_ones zero = refl
zeros_ones (suc n) = zeros_ones n

-- where the order is shorter than the rows, there is a cycle
pub short_rows : (n : ℕ) (es : List Arc) → length (order_rows n es) ≢ n → Cyclic (upto n) es
unfolding order_rows
short_rows n es h =
    let r = run_good n es n 0 (start n es) (zero-add n) (good_start n es) in
    let g = r.2 in
    let o : length r.0.queue ≢ n = rw r.1 at h in
    let l : length r.0.queue < n = omega (arith, zeros_le r.0.counts, g.empty, g.long, o) in
    let v = nonzero r.0.counts (omega (arith, g.empty, g.long)) in
    let hv : v.0 < n = omega (arith, v.1, g.long) in
    let one : (x : ℕ) → x < n → get_or {A = ℕ} (replicate n 1) x 0 ≢ 0 = λ x lx z. omega (arith, get_or-replicate {A = ℕ} n x 1 0 lx, z) in
    chase n es r.0 g n (replicate n 1) v.0 (length-replicate {A = ℕ} n 1) (omega (arith, zeros_ones n)) hv v.2 (one v.0 hv) (λ x lx z. absurd (one x lx z))
