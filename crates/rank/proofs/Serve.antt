-- The laws of the walk over the queue.
use Prim.Native.Nat.{ℕ, zero, suc, ◌+◌, ◌-◌, ◌≤◌, ◌<◌}
use native.Mathlib.Omega.{arith}
use native.Mathlib.Nat.{le_refl, not-suc-le-zero, sub-zero}
use native.Mathlib.Numerals.{add-one}
use native.Mathlib.Decide.{ℕ_discrete}
use mathlib.Core.Path.{◌≡◌, refl, sym, ap, ◌∙◌}
use mathlib.Core.Logic.{◌≢◌}
use mathlib.Core.List.{List, [], ◌∷◌}
use mathlib.Core.Bool.{cond, Bool, true, false}
use borrow.Author.Tests.{eq-eqb, ne_eqb, lt-ltb, le-ltb}
use lib.Dec.{eqb}
use lib.ListN.{length, take, drop, get_or, set, length-set, get_or-eq_default}
use lib.Seq.{get_or-take, length-take-le, get_or-set_same, get_or-set_other, drop-drop, drop-nil, take-suc-set, take-set-lt, set-get_or}
use Rattle.lists.specs.Count.{more}
use Rattle.rank.specs.Order.{Arc, arc, arcs}
use Rattle.rank.specs.Parts.{Queue, ready, St, fall, pick_st, serve, run, order_rows, start}
use Rattle.rank.specs.Parts.{find, from_at, Degrees, Ready, Linked}
use Rattle.rank.proofs.Laws.{many_arcs, arc_at, next_arc}

-- ---- how many counts are 0
unfoldable pub zeros : List ℕ → ℕ
zeros [] = 0
zeros (c ∷ cs) = more (eqb c 0) (zeros cs)

pub zeros_le : (cs : List ℕ) → zeros cs ≤ length cs
unfolding zeros
zeros_le [] = le_refl 0
zeros_le (c ∷ cs) = go (eqb c 0) (zeros_le cs)
  where
    go : (b : Bool) → zeros cs ≤ length cs → more b (zeros cs) ≤ suc (length cs)
    go true h = omega arith
    go false h = omega arith

-- a count that is not 0 becomes 0
pub zeros_one : (cs : List ℕ) (t : ℕ) → t < length cs → get_or cs t 0 ≢ 0 → zeros (set cs t 0) ≡ suc (zeros cs)
unfolding zeros
zeros_one [] t h o = absurd (not-suc-le-zero h)
zeros_one (c ∷ cs) zero h o = rw (ne_eqb c 0 o)
zeros_one (c ∷ cs) (suc t) h o = go (eqb c 0) (zeros_one cs t (omega arith) o)
  where
    go : (b : Bool) → zeros (set cs t 0) ≡ suc (zeros cs) → more b (zeros (set cs t 0)) ≡ suc (more b (zeros cs))
    go true e = ap suc e
    go false e = e

-- a count that is not 0 becomes another that is not
pub zeros_more : (cs : List ℕ) (t k : ℕ) → get_or cs t 0 ≢ 0 → k ≢ 0 → zeros (set cs t k) ≡ zeros cs
unfolding zeros
zeros_more [] t k o z = refl
zeros_more (c ∷ cs) zero k o z = rw (ne_eqb c 0 o, ne_eqb k 0 z)
zeros_more (c ∷ cs) (suc t) k o z = ap (more (eqb c 0)) (zeros_more cs t k o z)

pub zeros_lt : (cs : List ℕ) (t : ℕ) → t < length cs → get_or cs t 0 ≢ 0 → zeros cs < length cs
zeros_lt cs t h o = omega (arith, zeros_one cs t h o, zeros_le (set cs t 0), length-set cs t 0)

pub ready_length : (cs : List ℕ) (v : ℕ) → length (ready cs v) ≡ zeros cs
unfolding ready zeros
ready_length [] v = refl
ready_length (c ∷ cs) v = go (eqb c 0) (ready_length cs (suc v))
  where
    go : (b : Bool) → length (ready cs (suc v)) ≡ zeros cs → length (cond b (v ∷ (ready cs (suc v))) (ready cs (suc v))) ≡ more b (zeros cs)
    go true e = ap suc e
    go false e = e

pub ready_below : (cs : List ℕ) (v j : ℕ) → j < length (ready cs v) → get_or (ready cs v) j 0 < v + length cs
unfolding ready
ready_below [] v j h = absurd (not-suc-le-zero h)
ready_below (c ∷ cs) v j h = go (ready_below cs (suc v)) (eqb c 0) j h
  where
    go : ((j : ℕ) → j < length (ready cs (suc v)) → get_or (ready cs (suc v)) j 0 < suc v + length cs)
        → (b : Bool) (j : ℕ) → j < length (cond b (v ∷ (ready cs (suc v))) (ready cs (suc v))) → get_or (cond b (v ∷ (ready cs (suc v))) (ready cs (suc v))) j 0 < v + suc (length cs)
    go ih true zero h = omega arith
    go ih true (suc j) h = omega (arith, ih j (omega arith))
    go ih false j h = omega (arith, ih j h)

-- ---- the arrays as a state
abbrev pub st : ℕ → List ℕ → List ℕ → ℕ → St
st n counts queue tail = record { counts = take n counts; queue = take tail queue }

pub record Held (n : ℕ) (counts queue : List ℕ) (tail : ℕ) : Type 0 where
  pub counts_long : length counts ≡ 512
  pub queue_long : length queue ≡ 512
  pub small : n ≤ 512
  pub few : tail ≤ n
  pub empty : zeros (take n counts) ≡ tail
  pub rows : (j : ℕ) → j < tail → get_or queue j 0 < n

pub record Fell (t n : ℕ) (counts queue : List ℕ) (tail : ℕ) (counts' queue' : List ℕ) (tail' : ℕ) : Type 0 where
  pub held : Held n counts' queue' tail'
  pub more : tail ≤ tail'
  pub is : st n counts' queue' tail' ≡ fall t (st n counts queue tail)

st_eq : (c c' q q' : List ℕ) → c ≡ c' → q ≡ q' → ◌≡◌ {A = St} (record { counts = c; queue = q }) (record { counts = c'; queue = q' })
st_eq c c' q q' p r = λ i. record { counts = p i; queue = r i }

-- a count of 0 stays, and nothing is appended
pub fall_zero : (t : ℕ) (s : St) → get_or s.counts t 0 ≡ 0 → s ≡ fall t s
unfolding fall
fall_zero t s z = st_eq _ _ _ _ (sym (set-get_or s.counts t 0) ∙ ap (set s.counts t) (z ∙ sym (ap (◌- 1) z))) (rw z)

module _ (t n : ℕ) (counts queue : List ℕ) (tail : ℕ) (inv : Held n counts queue tail) where
  counts_n : length (take n counts) ≡ n
  counts_n = length-take-le n counts (omega arith)

  -- a count that is not 0 leaves room in the queue
  pub room : t < n → get_or counts t 0 ≢ 0 → tail < n
  room h o =
      let k : length (take n counts) ≡ n = counts_n in
      let o' : get_or (take n counts) t 0 ≢ 0 = rw (get_or-take n counts t 0 h) o in
      omega (arith, zeros_lt (take n counts) t (omega arith) o')

  pub fell_past : n ≤ t → Fell t n counts queue tail counts queue tail
  fell_past h =
      let k : length (take n counts) ≤ t = omega (arith, counts_n) in
      record { held = inv; more = le_refl tail; is = fall_zero t _ (get_or-eq_default (take n counts) 0 k) }

  pub fell_none : t < n → get_or counts t 0 ≡ 0 → Fell t n counts queue tail counts queue tail
  fell_none h z = record { held = inv; more = le_refl tail; is = fall_zero t _ (get_or-take n counts t 0 h ∙ z) }

  pub fell_more : t < n → 0 < get_or counts t 0 → get_or counts t 0 ≢ 1 → Fell t n counts queue tail (set counts t (get_or counts t 0 - 1)) queue tail
  unfolding fall
  fell_more h p o =
      let g : get_or (take n counts) t 0 ≡ get_or counts t 0 = get_or-take n counts t 0 h in
      record {
        held = record {
          counts_long = length-set counts t (get_or counts t 0 - 1) ∙ inv.counts_long;
          queue_long = inv.queue_long;
          small = inv.small;
          few = inv.few;
          empty = rw (take-set-lt n counts t (get_or counts t 0 - 1) h, zeros_more (take n counts) t (get_or counts t 0 - 1) (rw g (λ z. omega arith)) (λ z. omega arith)) inv.empty;
          rows = inv.rows;
        };
        more = le_refl tail;
        is = st_eq _ _ _ _ (rw (take-set-lt n counts t (get_or counts t 0 - 1) h, g)) (rw (g, ne_eqb (get_or counts t 0) 1 o));
      }

  pub fell_one : t < n → get_or counts t 0 ≡ 1 → Fell t n counts queue tail (set counts t (get_or counts t 0 - 1)) (set queue tail t) (tail + 1)
  unfolding fall
  fell_one h e =
      let g : get_or (take n counts) t 0 ≡ 1 = get_or-take n counts t 0 h ∙ e in
      let r : tail < n = room h (λ z. omega arith) in
      let lq : tail < length queue = omega arith in
      let lc : t < length (take n counts) = omega (arith, counts_n) in
      record {
        held = record {
          counts_long = length-set counts t (get_or counts t 0 - 1) ∙ inv.counts_long;
          queue_long = length-set queue tail t ∙ inv.queue_long;
          small = inv.small;
          few = omega arith;
          empty = rw (e, take-set-lt n counts t 0 h, zeros_one (take n counts) t lc (rw g (λ z. omega arith)), add-one) (ap suc inv.empty);
          rows = λ j l. go j l (ℕ_discrete j tail);
        };
        more = omega arith;
        is = st_eq _ _ _ _ (rw (take-set-lt n counts t (get_or counts t 0 - 1) h, g, e)) (rw (add-one, take-suc-set queue tail t lq, eq-eqb _ _ g));
      }
    where
      go : (j : ℕ) → j < tail + 1 → Dec (j ≡ tail) → get_or (set queue tail t) j 0 < n
      go j l (yes s) =
          let r : tail < n = room h (λ z. omega arith) in
          let lq : tail < length queue = omega arith in
          rw (s, get_or-set_same queue tail t 0 lq) h
      go j l (no o) = rw (get_or-set_other queue tail j t 0 o) (inv.rows j (omega arith))

-- ---- the edges of a row, one after the other
pub find_ge : (v : ℕ) (es : List Arc) (i : ℕ) → i ≤ find v es i
unfolding find
find_ge v [] i = le_refl i
find_ge v (e ∷ es) i = go (eqb e.from v) (find_ge v es (suc i))
  where
    go : (b : Bool) → suc i ≤ find v es (suc i) → i ≤ cond b i (find v es (suc i))
    go true h = le_refl i
    go false h = omega arith

-- what stands before the first edge of v is passed over
module _ (v : ℕ) where
  skipped : (es : List Arc) (i : ℕ) (s : St) → serve v es s ≡ serve v (drop (find v es i - i) es) s
  unfolding find serve
  skipped [] i s = rw drop-nil
  skipped (e ∷ es) i s = go (eqb e.from v) refl (skipped es (suc i) s)
    where
      go : (b : Bool) → eqb e.from v ≡ b → serve v es s ≡ serve v (drop (find v es (suc i) - suc i) es) s
          → serve v (e ∷ es) s ≡ serve v (drop (find v (e ∷ es) i - i) (e ∷ es)) s
      go true q ih = let f : find v (e ∷ es) i ≡ i = rw q in let z : 0 ≡ find v (e ∷ es) i - i = omega arith in ap (λ (k : ℕ). serve v (drop k (e ∷ es)) s) z
      go false q ih = let z : find v es (suc i) - i ≡ suc (find v es (suc i) - suc i) = omega (arith, find_ge v es (suc i)) in rw (q, z) ih

  refound : (es : List Arc) (i : ℕ) → find v (drop (find v es i - i) es) (find v es i) ≡ find v es i
  unfolding find
  refound [] i = rw drop-nil
  refound (e ∷ es) i = go (eqb e.from v) refl (refound es (suc i))
    where
      go : (b : Bool) → eqb e.from v ≡ b → find v (drop (find v es (suc i) - suc i) es) (find v es (suc i)) ≡ find v es (suc i)
          → find v (drop (find v (e ∷ es) i - i) (e ∷ es)) (find v (e ∷ es) i) ≡ find v (e ∷ es) i
      go true q ih = let z : i - i ≡ 0 = omega arith in rw (q, z, q)
      go false q ih = let z : find v es (suc i) - i ≡ suc (find v es (suc i) - suc i) = omega (arith, find_ge v es (suc i)) in rw (q, z) ih

  module _ (es : List Arc) (i : ℕ) where
    from_place : drop (find v (drop i es) i - i) (drop i es) ≡ drop (find v (drop i es) i) es
    from_place = let z : i + (find v (drop i es) i - i) ≡ find v (drop i es) i = omega (arith, find_ge v (drop i es) i) in drop-drop _ i es ∙ ap (λ (k : ℕ). drop k es) z

    pub serve_skip : (s : St) → serve v (drop i es) s ≡ serve v (drop (find v (drop i es) i) es) s
    serve_skip s = skipped (drop i es) i s ∙ ap (λ (l : List Arc). serve v l s) from_place

    pub find_again : find v (drop (find v (drop i es) i) es) (find v (drop i es) i) ≡ find v (drop i es) i
    find_again = ap (λ (l : List Arc). find v l (find v (drop i es) i)) (sym from_place) ∙ refound (drop i es) i

  -- where the first edge of v from e on is at e, it is v's
  module _ (es : List Arc) (e : ℕ) (r : Arc) (dr : drop e es ≡ r ∷ drop (e + 1) es) (f : find v (drop e es) e ≡ e) where
    pub its_own : r.from ≡ v
    unfolding find
    its_own = go (ℕ_discrete r.from v)
      where
        at : (o : r.from ≢ v) → find v (drop e es) e ≡ find v (drop (e + 1) es) (suc e)
        at o = rw (dr, ne_eqb r.from v o)

        go : Dec (r.from ≡ v) → r.from ≡ v
        go (yes s) = s
        go (no o) = absurd (omega (arith, at o, f, find_ge v (drop (e + 1) es) (suc e)))

    pub serve_one : (s : St) → serve v (drop e es) s ≡ serve v (drop (e + 1) es) (fall r.to s)
    unfolding serve
    serve_one s = ap (λ (l : List Arc). serve v l s) dr ∙ ap (λ (b : Bool). serve v (drop (e + 1) es) (pick_st b (fall r.to s) s)) (eq-eqb _ _ its_own)

-- ---- the queue
pub run_step : (k : ℕ) (es : List Arc) (h : ℕ) (s : St) → h < length s.queue → run (suc k) es h s ≡ run k es (suc h) (serve (get_or s.queue h 0) es s)
unfolding run
run_step k es h s l = rw (lt-ltb _ _ l, run)

pub run_done : (k : ℕ) (es : List Arc) (h : ℕ) (s : St) → length s.queue ≤ h → run k es h s ≡ s.queue
unfolding run
run_done zero es h s l = refl
run_done (suc k) es h s l = rw (le-ltb _ _ l, run)

-- ---- from place to place of the code
module _ (n : ℕ) (counts : List ℕ) (o : Queue) (es : List Arc) (hn : n ≤ 512) (d : Degrees counts n es) (r : Ready o (take n counts)) where
  start_n : length (take n counts) ≡ n
  start_n = length-take-le n counts (omega arith)

  start_tail : length (take o.count o.rows) ≡ o.count
  start_tail = length-take-le o.count o.rows (omega (arith, start_n))

  pub held_start : Held n counts o.rows o.count
  held_start =
      record {
        counts_long = d.long;
        queue_long = r.long;
        small = hn;
        few = omega (arith, start_n);
        empty = sym (ready_length (take n counts) 0) ∙ sym (ap length r.is) ∙ start_tail;
        rows = λ j l.
            let b : j < length (ready (take n counts) 0) = omega (arith, start_tail, ap length r.is) in
            rw (sym (get_or-take o.count o.rows j 0 l) ∙ ap (λ (q : List ℕ). get_or q j 0) r.is) (omega (arith, ready_below (take n counts) 0 j b, start_n));
      }

  pub run_start : run (n - 0) es 0 (st n counts o.rows o.count) ≡ order_rows n es
  unfolding order_rows start
  run_start = rw (sub-zero, r.is, d.is)

-- the next arc of v, among those from fs to ts
module _ (fs ts : List ℕ) (paired : length fs ≡ length ts) (v e n : ℕ) (first next : List ℕ) (lk : Linked first next n (arcs fs ts))
    (vn : v < n) (he : e < length ts) (f : find v (drop e (arcs fs ts)) e ≡ e) where
  next_is : get_or next e 0 ≡ find v (drop (e + 1) (arcs fs ts)) (e + 1)
  next_is =
      let es = arcs fs ts in
      let le : e < length es = rw (many_arcs fs ts paired) he in
      let fr : from_at es e ≡ get_or fs e 0 = ap (λ (x : Arc). x.from) (arc_at fs ts paired e he) in
      let w : from_at es e ≡ v = fr ∙ its_own v es e (arc (get_or fs e 0) (get_or ts e 0)) (next_arc fs ts paired e he) f in
      lk.nexts e le (rw w vn) ∙ ap (λ (k : ℕ). find k (drop (e + 1) es) (e + 1)) w

  pub next_more : e < get_or next e 0
  next_more = omega (arith, next_is, find_ge v (drop (e + 1) (arcs fs ts)) (e + 1))

  pub next_found : find v (drop (get_or next e 0) (arcs fs ts)) (get_or next e 0) ≡ get_or next e 0
  next_found = rw next_is (find_again v (arcs fs ts) (e + 1))

  pub next_serve : (s s' : St) → s' ≡ fall (get_or ts e 0) s → serve v (drop (get_or next e 0) (arcs fs ts)) s' ≡ serve v (drop e (arcs fs ts)) s
  next_serve s s' q =
      let es = arcs fs ts in
      rw (next_is, q) (sym (serve_one v es e (arc (get_or fs e 0) (get_or ts e 0)) (next_arc fs ts paired e he) f s ∙ serve_skip v es (e + 1) (fall (get_or ts e 0) s)))

-- the next of the queue
pub next_run : (n h : ℕ) (es : List Arc) (s s' : St) → h < length s.queue → h < n → s' ≡ serve (get_or s.queue h 0) es s
    → run (n - (h + 1)) es (h + 1) s' ≡ run (n - h) es h s
next_run n h es s s' l hn q =
    let z : n - h ≡ suc (n - (h + 1)) = omega arith in
    rw (z, run_step (n - (h + 1)) es h s l, add-one h, q)

-- the first edge of v
module _ (v n : ℕ) (es : List Arc) (first next : List ℕ) (lk : Linked first next n es) (vn : v < n) where
  pub first_found : find v (drop (get_or first v 0) es) (get_or first v 0) ≡ get_or first v 0
  first_found = rw (lk.firsts v vn) (find_again v es 0)

  pub first_serve : (s : St) → serve v (drop (get_or first v 0) es) s ≡ serve v es s
  first_serve s = rw (lk.firsts v vn) (sym (serve_skip v es 0 s))

pub serve_none : (v : ℕ) (s : St) → serve v [] s ≡ s
unfolding serve
serve_none v s = refl

pub zero_run : (es : List Arc) (h : ℕ) (s : St) → run zero es h s ≡ s.queue
unfolding run
zero_run es h s = refl
