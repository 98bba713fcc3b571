-- The order in which nodes are processed (SPEC 5.2). Here nodes are numbers, listed as they are to be taken, and arcs
-- are pairs of numbers: a graph's node ids with its edges, or a definition's node indices with its edges.
use Rattle.std.specs.Prelude.{ℕ, zero, suc, List, [], ◌∷◌, ◌++◌, Bool, false, ◌&&◌, ◌||◌, not, length, eqb, cond, filter}

pub record Arc : Type 0 where
  pub from : ℕ
  pub to : ℕ

abbrev pub arc : ℕ → ℕ → Arc
arc a b = record { from = a; to = b }

-- whether x is one of the nodes
unfoldable pub among : ℕ → List ℕ → Bool
among x [] = false
among x (y ∷ l) = eqb x y || among x l

-- whether some arc goes to t
unfoldable pub fed : ℕ → List Arc → Bool
fed t [] = false
fed t (e ∷ es) = eqb e.to t || fed t es

-- the arcs both ends of which are live
abbrev pub live : List ℕ → List Arc → List Arc
live nodes = filter (λ e. among e.from nodes && among e.to nodes)

-- the arcs of v, and those of the others
abbrev pub own : ℕ → List Arc → List Arc
own v = filter (λ e. eqb e.from v)

abbrev pub others : ℕ → List Arc → List Arc
others v = filter (λ e. not (eqb e.from v))

-- The targets of `mine`, the arcs of the node that is served, in their order: each at the arc that is the last to feed it,
-- when `left` are the arcs of those that are not served yet.
unfoldable pub released : List Arc → List Arc → List ℕ
released [] left = []
released (e ∷ mine) left = cond (not (fed e.to (mine ++ left))) (e.to ∷ (released mine left)) (released mine left)

-- The queue is walked, at most k nodes of it: its first is served, and what that releases is queued. `left` are the arcs
-- of those that are not served yet.
unfoldable pub walk : ℕ → List ℕ → List Arc → List ℕ
walk zero queue left = []
walk (suc k) [] left = []
walk (suc k) (v ∷ queue) left = v ∷ walk k (queue ++ released (own v left) (others v left)) (others v left)

-- live nodes without a live source; then, walking that queue, what is released
unfoldable pub order : List ℕ → List Arc → List ℕ
order nodes arcs = walk (length nodes) (filter (λ v. not (fed v (live nodes arcs))) nodes) (live nodes arcs)

-- whether the order has all nodes
unfoldable pub whole : List ℕ → List Arc → Bool
whole nodes arcs = eqb (length (order nodes arcs)) (length nodes)

-- ---- nodes that are indices
-- the k numbers from i on
unfoldable pub count_up : ℕ → ℕ → List ℕ
count_up zero i = []
count_up (suc k) i = i ∷ count_up k (suc i)

-- 0 to n - 1
abbrev pub upto : ℕ → List ℕ
upto n = count_up n 0

-- arcs that are given by their sources and their targets, as far as both go
unfoldable pub arcs : List ℕ → List ℕ → List Arc
arcs [] ts = []
arcs (f ∷ fs) [] = []
arcs (f ∷ fs) (t ∷ ts) = arc f t ∷ arcs fs ts
