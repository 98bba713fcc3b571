-- The counts of specs/Parts.antt give the order of specs/Order.antt: a count is how many arcs are left to the index.
use Prim.Native.Nat.{ℕ, zero, suc, ◌+◌, ◌-◌, ◌≤◌, ◌<◌, min}
use native.Mathlib.Omega.{arith}
use native.Mathlib.Nat.{zero-add}
use native.Mathlib.Decide.{ℕ_discrete, dec_lt}
use mathlib.Core.Path.{◌≡◌, refl, sym, ap, subst, ◌∙◌}
use mathlib.Core.Logic.{◌≢◌}
use mathlib.Core.List.{List, [], ◌∷◌, ◌++◌, append-nil}
use mathlib.Core.Bool.{Bool, true, false, ◌&&◌, ◌||◌, not, and-true, not-not}
use borrow.Author.Tests.{eq-eqb, ne_eqb, lt-ltb, le-ltb}
use lib.Dec.{eqb, ltb}
use lib.ListN.{length, take, drop, get_or, get_or-eq_default, drop_of_length-le}
use lib.Seq.{length-take-le, append_snoc, take_all, take-suc, drop-cons, take-append-le, drop-append-le}
use Rattle.std.specs.Prelude.{cond, filter}
use Rattle.std.proofs.lemmas.Bool.{false_from_ne_true}
use Rattle.lists.proofs.Filter.{filter_filter, filter_same}
use Rattle.lists.specs.Count.{more, count}
use Rattle.lists.proofs.Count.{count_append}
use Rattle.rank.specs.Order.{Arc, arc, among, fed, live, own, others, released, walk, order, whole, count_up, upto, arcs}
use Rattle.rank.specs.Parts.{Queue, indeg, degs, ready, St, app, fall, pick_st, serve, run, start, order_rows, Queued, Ranked}
use Rattle.rank.proofs.Laws.{length_arcs}
use Rattle.rank.proofs.Serve.{zeros_le, run_step, run_done, fall_zero}
use Rattle.rank.proofs.Cycle.{in_upto, upto_in, among_snoc, opens, opens_none, fall_count, fall_long, Good, good_next, good_start}
use Rattle.rank.proofs.Invariant.{among_in, in_among, Ok, Invariant, invariant_next, invariant_start}

-- ---- how many arcs go to v
abbrev pub into : ℕ → List Arc → ℕ
into v = count (λ e. eqb e.to v)

fed_into : (v : ℕ) (l : List Arc) → fed v l ≡ not (eqb (into v l) 0)
unfolding fed
fed_into v [] = refl
fed_into v (e ∷ l) = go (eqb e.to v) (fed_into v l)
  where
    go : (b : Bool) → fed v l ≡ not (eqb (into v l) 0) → (b || fed v l) ≡ not (eqb (more b (into v l)) 0)
    go true h = let o : suc (into v l) ≢ 0 = λ z. omega arith in rw (ne_eqb (suc (into v l)) 0 o)
    go false h = h

not_fed : (v k : ℕ) (l : List Arc) → k ≡ into v l → eqb k 0 ≡ not (fed v l)
not_fed v k l h = rw (fed_into v l, h) (sym (not-not (eqb (into v l) 0)))

count_split : {A : Type 0} (p t : A → Bool) (l : List A) → count p (filter t l) + count p (filter (λ x. not (t x)) l) ≡ count p l
count_split p t [] = refl
count_split p t (x ∷ l) = go (t x) (p x) refl refl (count_split p t l)
  where
    go : (a b : Bool) → t x ≡ a → p x ≡ b → count p (filter t l) + count p (filter (λ x. not (t x)) l) ≡ count p l
        → count p (cond a (x ∷ (filter t l)) (filter t l)) + count p (cond (not a) (x ∷ (filter (λ x. not (t x)) l)) (filter (λ x. not (t x)) l)) ≡ more b (count p l)
    go true true e f h = rw f (omega arith)
    go true false e f h = rw f h
    go false true e f h = rw f (omega arith)
    go false false e f h = rw f h

-- ---- the arcs between indices below n whose source is not in q, and those of one source
abbrev left : ℕ → List ℕ → List Arc → List Arc
left n q = filter (λ e. (ltb e.from n && ltb e.to n) && not (among e.from q))

abbrev mine : ℕ → ℕ → List Arc → List Arc
mine n w = filter (λ e. eqb e.from w && ltb e.to n)

pub among_upto : (n x : ℕ) → among x (upto n) ≡ ltb x n
among_upto n x = go (dec_lt x n)
  where
    go : Dec (x < n) → among x (upto n) ≡ ltb x n
    go (yes h) = in_among x (upto n) (in_upto n x h) ∙ sym (lt-ltb _ _ h)
    go (no o) = let h : n ≤ x = omega arith in false_from_ne_true _ (λ t. o (upto_in n x (among_in x (upto n) t))) ∙ sym (le-ltb _ _ h)

length_count : (k i : ℕ) → length (count_up k i) ≡ k
unfolding count_up
length_count zero i = refl
length_count (suc k) i = ap suc (length_count k (suc i))

pub length_upto : (n : ℕ) → length (upto n) ≡ n
length_upto n = length_count n 0

live_left : (n : ℕ) (es : List Arc) → live (upto n) es ≡ left n [] es
unfolding among
live_left n es = filter_same _ _ es (λ e _. rw (among_upto n e.from, among_upto n e.to, and-true (ltb e.from n && ltb e.to n)))

module _ (n w : ℕ) (hw : w < n) (q : List ℕ) (o : among w q ≡ false) (es : List Arc) where
  own_left : own w (left n q es) ≡ mine n w es
  own_left = filter_filter _ _ es ∙ filter_same _ _ es (λ e _. go e (ℕ_discrete e.from w))
    where
      go : (e : Arc) → Dec (e.from ≡ w) → (eqb e.from w && ((ltb e.from n && ltb e.to n) && not (among e.from q))) ≡ (eqb e.from w && ltb e.to n)
      go e (yes p) = rw (p, lt-ltb w n hw, o, and-true (ltb e.to n))
      go e (no p) = rw (ne_eqb e.from w p)

  others_left : others w (left n q es) ≡ left n (q ++ (w ∷ [])) es
  others_left = filter_filter _ _ es ∙ filter_same _ _ es (λ e _. step e)
    where
      go : (a b c : Bool) → (not a && (b && not c)) ≡ (b && not (c || a))
      go true true true = refl
      go true true false = refl
      go true false c = refl
      go false true true = refl
      go false true false = refl
      go false false c = refl

      step :
          (e : Arc) →
          (not (eqb e.from w) && ((ltb e.from n && ltb e.to n) && not (among e.from q))) ≡ ((ltb e.from n && ltb e.to n) && not (among e.from (q ++ (w ∷ []))))
      step e = rw (among_snoc e.from q w) (go (eqb e.from w) (ltb e.from n && ltb e.to n) (among e.from q))

opens_into : (n : ℕ) (q : List ℕ) (es : List Arc) (v : ℕ) → v < n → opens n q es v ≡ into v (left n q es)
unfolding opens
opens_into n q [] v h = refl
opens_into n q (e ∷ es) v h = go (ltb e.from n) (eqb e.to v) refl (ltb e.to n) refl (among e.from q) (ℕ_discrete e.to v) (opens_into n q es v h)
  where
    go : (f t : Bool) → eqb e.to v ≡ t → (b : Bool) → ltb e.to n ≡ b → (m : Bool) → Dec (e.to ≡ v) → opens n q es v ≡ into v (left n q es)
        → more ((f && t) && not m) (opens n q es v) ≡ into v (cond ((f && b) && not m) (e ∷ (left n q es)) (left n q es))
    go false t et b eb m d ih = ih
    go true t et b eb m (no o) ih = let z : t ≡ false = sym et ∙ ne_eqb e.to v o in rw z (miss (b && not m))
      where
        miss : (c : Bool) → opens n q es v ≡ into v (cond c (e ∷ (left n q es)) (left n q es))
        miss true = rw (ne_eqb e.to v o) ih
        miss false = ih
    go true t et b eb m (yes p) ih =
        let z : t ≡ true = sym et ∙ eq-eqb e.to v p in
        let l : e.to < n = rw p h in
        let y : b ≡ true = sym eb ∙ lt-ltb _ _ l in
        rw (z, y) (hit m)
      where
        hit : (m : Bool) → more (not m) (opens n q es v) ≡ into v (cond (not m) (e ∷ (left n q es)) (left n q es))
        hit true = ih
        hit false = rw (eq-eqb e.to v p) (ap suc ih)

fall_appends : (t : ℕ) (s : St) → (fall t s).queue ≡ app (eqb (get_or s.counts t 0) 1) s.queue t
unfolding fall
fall_appends t s = refl

-- ---- one index is served: what is appended to the queue is what it releases
module _ (n w : ℕ) (rest-left : List Arc) where
  serve_queue : (es : List Arc) (s : St) → length s.counts ≡ n → ((v : ℕ) → v < n → get_or s.counts v 0 ≡ into v (mine n w es ++ rest-left))
      → (serve w es s).queue ≡ s.queue ++ released (mine n w es) rest-left
  unfolding serve released
  serve_queue [] s l h = sym (append-nil s.queue)
  serve_queue (e ∷ es) s l h = go (ℕ_discrete e.from w) (dec_lt e.to n) (serve_queue es)
    where
      t : ℕ
      t = e.to

      Rest : St → Type 0
      Rest x = length x.counts ≡ n → ((v : ℕ) → v < n → get_or x.counts v 0 ≡ into v (mine n w es ++ rest-left)) → (serve w es x).queue ≡ x.queue ++ released (mine n w es) rest-left

      Goal : Bool → Bool → Type 0
      Goal a b = (serve w es (pick_st a (fall t s) s)).queue ≡ s.queue ++ released (cond (a && b) (e ∷ (mine n w es)) (mine n w es)) rest-left

      append : (b : Bool) (r : List ℕ) → app b s.queue t ++ r ≡ s.queue ++ cond b (t ∷ r) r
      append true r = append_snoc s.queue t r
      append false r = refl

      go : Dec (e.from ≡ w) → Dec (t < n) → ((x : St) → Rest x) → (serve w (e ∷ es) s).queue ≡ s.queue ++ released (mine n w (e ∷ es)) rest-left
      go (no o) d ih = subst (λ (a : Bool). Goal a (ltb t n)) (sym (ne_eqb e.from w o)) (ih s l (λ v lt. rw (ne_eqb e.from w o) at (h v lt)))
      go (yes p) (no o) ih =
          let g : n ≤ t = omega arith in
          let z : s ≡ fall t s = fall_zero t s (get_or-eq_default s.counts 0 (omega arith)) in
          let c : ltb t n ≡ false = le-ltb _ _ g in
          subst (λ (a : Bool). Goal a (ltb t n)) (sym (eq-eqb e.from w p)) (subst (λ (b : Bool). Goal true b) (sym c)
          (ap (λ (x : St). (serve w es x).queue) (sym z) ∙ ih s l (λ v lt. rw (eq-eqb e.from w p, c) at (h v lt))))
      go (yes p) (yes g) ih =
          let c : ltb t n ≡ true = lt-ltb _ _ g in
          let k : (v : ℕ) → v < n → get_or s.counts v 0 ≡ more (eqb t v) (into v (mine n w es ++ rest-left)) = λ v lt. rw (eq-eqb e.from w p, c) at (h v lt) in
          let kt : get_or s.counts t 0 ≡ suc (into t (mine n w es ++ rest-left)) = rw (eq-eqb t t refl) at (k t g) in
          subst (λ (a : Bool). Goal a (ltb t n)) (sym (eq-eqb e.from w p)) (subst (λ (b : Bool). Goal true b) (sym c)
          (ih (fall t s) (fall_long t s ∙ l) (λ v lt. fall_count t s v ∙ rw (k v lt) (less (eqb t v) (into v (mine n w es ++ rest-left))))
          ∙ last (into t (mine n w es ++ rest-left)) kt refl))
        where
          less : (b : Bool) (m : ℕ) → more b m - more b 0 ≡ m
          less true m = omega arith
          less false m = omega arith

          one : (m : ℕ) → eqb (suc m) 1 ≡ eqb m 0
          one zero = refl
          one (suc m) = let a : suc (suc m) ≢ 1 = λ z. omega arith in let b : suc m ≢ 0 = λ z. omega arith in ne_eqb (suc (suc m)) 1 a ∙ sym (ne_eqb (suc m) 0 b)

          last : (m : ℕ) → get_or s.counts t 0 ≡ suc m → m ≡ into t (mine n w es ++ rest-left)
              → (fall t s).queue ++ released (mine n w es) rest-left ≡ s.queue ++ cond (not (fed t (mine n w es ++ rest-left))) (t ∷ (released (mine n w es) rest-left)) (released (mine n w es) rest-left)
          last m q r =
              ap (λ (z : List ℕ). z ++ released (mine n w es) rest-left) (fall_appends t s)
              ∙ ap (λ (b : Bool). app b s.queue t ++ released (mine n w es) rest-left) (ap (λ (x : ℕ). eqb x 1) q ∙ one m ∙ not_fed t m (mine n w es ++ rest-left) r)
              ∙ append (not (fed t (mine n w es ++ rest-left))) (released (mine n w es) rest-left)

-- ---- the queue is walked
module _ (n : ℕ) (es : List Arc) where
  abbrev Walked : ℕ → ℕ → St → Type 0
  Walked k h s = run k es h s ≡ take h s.queue ++ walk k (drop h s.queue) (left n (take h s.queue) es)

  few : (h : ℕ) (s : St) → Good n es h s → length s.queue ≤ n
  few h s g = omega (arith, zeros_le s.counts, g.empty, g.long)

  -- nothing is left of the queue
  walked_out : (k h : ℕ) (s : St) → length s.queue ≤ h → Walked k h s
  unfolding walk
  walked_out k h s l =
      run_done k es h s l
      ∙ sym (rw (take_all h s.queue l, drop_of_length-le s.queue l) (ap (λ (z : List ℕ). s.queue ++ z) (stops k) ∙ append-nil s.queue))
    where
      stops : (k : ℕ) → walk k [] (left n s.queue es) ≡ []
      stops zero = refl
      stops (suc k) = refl

  module _ (h : ℕ) (s : St) (l : h < length s.queue) (g : Good n es h s) (d : Invariant n es h s) where
    abbrev w : ℕ
    w = get_or s.queue h 0

    abbrev q : List ℕ
    q = take h s.queue

    counted : (v : ℕ) → v < n → get_or s.counts v 0 ≡ into v (mine n w es ++ left n (q ++ (w ∷ [])) es)
    unfolding Ok
    counted v lt =
        let a = d.ok h l in
        let e : get_or s.counts v 0 ≡ opens n q es v = omega (arith, g.open_in v lt, d.least v lt) in
        e ∙ opens_into n q es v lt ∙ sym (count_split _ (λ x. eqb x.from w) (left n q es))
        ∙ sym (count_append _ (own w (left n q es)) (others w (left n q es)))
        ∙ ap (λ (x : List Arc). into v (x ++ others w (left n q es))) (own_left n w a.0 q a.1 es)
        ∙ ap (λ (x : List Arc). into v (mine n w es ++ x)) (others_left n w a.0 q a.1 es)

    served : (serve w es s).queue ≡ s.queue ++ released (mine n w es) (left n (q ++ (w ∷ [])) es)
    served = serve_queue n w (left n (q ++ (w ∷ [])) es) es s d.long counted

    walked_one : (k : ℕ) → Walked k (suc h) (serve w es s) → Walked (suc k) h s
    unfolding walk Ok
    walked_one k ih =
        let a = d.ok h l in
        let r = released (mine n w es) (left n (q ++ (w ∷ [])) es) in
        let f : take (suc h) (serve w es s).queue ≡ q ++ (w ∷ []) =
        ap (take (suc h)) served ∙ take-append-le (suc h) s.queue r l ∙ take-suc s.queue h 0 l in
        let b : drop (suc h) (serve w es s).queue ≡ drop (suc h) s.queue ++ r = ap (drop (suc h)) served ∙ drop-append-le (suc h) s.queue r l in
        let on = walk k (drop (suc h) s.queue ++ r) (left n (q ++ (w ∷ [])) es) in
        let after : take (suc h) (serve w es s).queue ++ walk k (drop (suc h) (serve w es s).queue) (left n (take (suc h) (serve w es s).queue) es) ≡ q ++ w ∷ on =
        rw (f, b) (append_snoc q w on) in
        let now : q ++ walk (suc k) (drop h s.queue) (left n q es) ≡ q ++ w ∷ on =
        rw (drop-cons s.queue h 0 l, own_left n w a.0 q a.1 es, others_left n w a.0 q a.1 es) in
        run_step k es h s l ∙ ih ∙ after ∙ sym now

  walked : (k h : ℕ) (s : St) → h + k ≡ n → Good n es h s → Invariant n es h s → Walked k h s
  walked zero h s e g d = walked_out zero h s (omega (arith, few h s g))
  walked (suc k) h s e g d = go (dec_lt h (length s.queue)) (walked k (suc h) (serve (get_or s.queue h 0) es s) (omega arith))
    where
      go : Dec (h < length s.queue) → (Good n es (suc h) (serve (get_or s.queue h 0) es s) → Invariant n es (suc h) (serve (get_or s.queue h 0) es s) → Walked k (suc h) (serve (get_or s.queue h 0) es s))
          → Walked (suc k) h s
      go (yes l) ih = walked_one h s l g d k (ih (good_next n es h s l g) (invariant_next n es h s l d))
      go (no o) ih = walked_out (suc k) h s (omega arith)

  -- ---- and where it begins
  ready_first : (k i : ℕ) → i + k ≤ n → ready (degs n es k i) i ≡ filter (λ v. not (fed v (left n [] es))) (count_up k i)
  unfolding ready degs count_up
  ready_first zero i h = refl
  ready_first (suc k) i h =
      let lt : i < n = omega arith in
      let e : indeg n es i ≡ into i (left n [] es) = sym (opens_none n es i) ∙ opens_into n [] es i lt in
      rw (ready_first k (suc i) (omega arith), not_fed i (indeg n es i) (left n [] es) e)

  pub rows_order : order_rows n es ≡ order (upto n) es
  unfolding order_rows order start
  rows_order =
      walked n 0 (start n es) (zero-add n) (good_start n es) (invariant_start n es)
      ∙ ap (λ (z : List ℕ). walk n z (left n [] es)) (ready_first n 0 (omega arith))
      ∙ sym (rw (length_upto n, live_left n es))

-- ---- what the code returns
cut_arcs : (fs ts : List ℕ) (m : ℕ) → arcs (take m fs) (take m ts) ≡ take m (arcs fs ts)
unfolding arcs
cut_arcs fs ts zero = refl
cut_arcs [] ts (suc m) = refl
cut_arcs (f ∷ fs) [] (suc m) = refl
cut_arcs (f ∷ fs) (t ∷ ts) (suc m) = ap (λ es. arc f t ∷ es) (cut_arcs fs ts m)

pub take_arcs : (fs ts : List ℕ) (m : ℕ) → m ≡ min (min (length fs) (length ts)) 1024 → arcs (take m fs) (take m ts) ≡ take 1024 (arcs fs ts)
take_arcs fs ts m h = cut_arcs fs ts m ∙ go (dec_lt (length (arcs fs ts)) 1024)
  where
    go : Dec (length (arcs fs ts) < 1024) → take m (arcs fs ts) ≡ take 1024 (arcs fs ts)
    go (yes l) = take_all m (arcs fs ts) (omega (arith, length_arcs fs ts)) ∙ sym (take_all 1024 (arcs fs ts) (omega arith))
    go (no o) = let e : m ≡ 1024 = omega (arith, length_arcs fs ts) in ap (λ (k : ℕ). take k (arcs fs ts)) e

pub ranking : (r : Queue) (k : ℕ) (es : List Arc) → k ≤ 512 → Queued r k es → Ranked (record { rows = r; whole = eqb r.count k }) (upto k) es
unfolding whole
ranking r k es h q =
    let clamp : min r.count 512 ≡ r.count = omega (arith, q.few) in
    let is : take (min r.count 512) r.rows ≡ order (upto k) es = ap (λ (c : ℕ). take c r.rows) clamp ∙ q.is ∙ rows_order k es in
    let many : r.count ≡ length (take (min r.count 512) r.rows) =
    sym (length-take-le r.count r.rows (omega (arith, q.few, q.long))) ∙ ap (λ (c : ℕ). length (take c r.rows)) (sym clamp) in
    record { long = q.long; is = is; many = many; all = rw (← (many ∙ ap length is), length_upto k) }
