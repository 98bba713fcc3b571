-- What the parts of `ranked` compute, with counts in place of the arcs that are left. Nothing here has to be believed but
-- `ranking_of`: proofs/Counts.antt shows that the counts give the order of specs/Order.antt.
use Rattle.std.specs.Prelude.{ℕ, zero, suc, ◌+◌, ◌-◌, ◌<◌, ◌≤◌, List, [], ◌∷◌, ◌++◌, Bool, true, false, ◌&&◌, cond, ◌≡◌, length, take, drop, get_or, set, eqb, ltb}
use Rattle.lists.specs.Count.{more}
use Rattle.lists.specs.Table.{rows_of}
use Rattle.lists.specs.declared.rows.Table.{Table}
use Rattle.rank.specs.Order.{Arc, arc, order, whole}
use Rattle.rank.specs.declared.Ranking.{Ranking}

-- what a ranking holds
abbrev pub ranking_of : Ranking → List ℕ
ranking_of r = rows_of 512 r.rows.count r.rows.rows

pub record Ranked (r : Ranking) (nodes : List ℕ) (es : List Arc) : Type 0 where
  pub long : length r.rows.rows ≡ 512
  pub is : ranking_of r ≡ order nodes es
  pub many : r.rows.count ≡ length (ranking_of r)
  pub all : r.whole ≡ whole nodes es

-- ---- counts
-- how many of the arcs go from a live index, one below n, to v
unfoldable pub indeg : ℕ → List Arc → ℕ → ℕ
indeg n [] v = zero
indeg n (e ∷ es) v = more (ltb e.from n && eqb e.to v) (indeg n es v)

-- the counts of the k indices from v on
unfoldable pub degs : ℕ → List Arc → ℕ → ℕ → List ℕ
degs n es zero v = []
degs n es (suc k) v = indeg n es v ∷ degs n es k (suc v)

pub record Degrees (r : List ℕ) (n : ℕ) (es : List Arc) : Type 0 where
  pub long : length r ≡ 512
  pub is : take n r ≡ degs n es n 0

-- the indices, from v on, whose count is 0
unfoldable pub ready : List ℕ → ℕ → List ℕ
ready [] v = []
ready (c ∷ cs) v = cond (eqb c 0) (v ∷ (ready cs (suc v))) (ready cs (suc v))

-- indices, in the order in which they are looked at
abbrev pub Queue : Type 0
Queue = Table ℕ 512

pub record Ready (r : Queue) (cs : List ℕ) : Type 0 where
  pub long : length r.rows ≡ 512
  pub few : r.count ≤ length cs
  pub is : take r.count r.rows ≡ ready cs 0

-- ---- the chains
-- the place of the first arc from v, where the first of the arcs stands at i; past them where there is none
unfoldable pub find : ℕ → List Arc → ℕ → ℕ
find v [] i = i
find v (e ∷ es) i = cond (eqb e.from v) i (find v es (suc i))

abbrev pub none : Arc
none = arc 0 0

abbrev pub from_at : List Arc → ℕ → ℕ
from_at es i = (get_or es i none).from

pub record Linked (first next : List ℕ) (n : ℕ) (es : List Arc) : Type 0 where
  pub first_long : length first ≡ 512
  pub next_long : length next ≡ 1024
  pub firsts : (v : ℕ) → v < n → get_or first v 0 ≡ find v es 0
  pub nexts : (i : ℕ) → i < length es → from_at es i < n → get_or next i 0 ≡ find (from_at es i) (drop (i + 1) es) (i + 1)

-- ---- the walk
-- the counts of arcs that are not served yet, and the queue, served and not
pub record St : Type 0 where
  pub counts : List ℕ
  pub queue : List ℕ

abbrev pub app : Bool → List ℕ → ℕ → List ℕ
app true q t = q ++ (t ∷ [])
app false q t = q

-- the count of t falls by one; where it reaches 0, t is appended
unfoldable pub fall : ℕ → St → St
fall t s = record { counts = set s.counts t (get_or s.counts t 0 - 1); queue = app (eqb (get_or s.counts t 0) 1) s.queue t }

abbrev pub pick_st : Bool → St → St → St
pick_st true a b = a
pick_st false a b = b

-- the index v is served: each of its arcs, in their order
unfoldable pub serve : ℕ → List Arc → St → St
serve v [] s = s
serve v (e ∷ es) s = serve v es (pick_st (eqb e.from v) (fall e.to s) s)

-- the queue from place h on is served, at most k indices of it
unfoldable pub run : ℕ → List Arc → ℕ → St → List ℕ
run zero es h s = s.queue
run (suc k) es h s = elim (ltb h (length s.queue)) [ true ↦ run k es (suc h) (serve (get_or s.queue h 0) es s) | false ↦ s.queue ]

unfoldable pub start : ℕ → List Arc → St
start n es = record { counts = degs n es n 0; queue = ready (degs n es n 0) 0 }

-- the order of the n indices
unfoldable pub order_rows : ℕ → List Arc → List ℕ
order_rows n es = run n es 0 (start n es)

pub record Queued (r : Queue) (n : ℕ) (es : List Arc) : Type 0 where
  pub long : length r.rows ≡ 512
  pub is : take r.count r.rows ≡ order_rows n es
  pub few : r.count ≤ n
