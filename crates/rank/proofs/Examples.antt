-- Worked examples over the definitions, in a table that one computed check proves.
use Prim.Native.Nat.{ℕ}
use mathlib.Core.List.{List, [], ◌∷◌, map}
use mathlib.Core.Bool.{Bool, true, false}
use mathlib.Core.Path.{◌≡◌, refl}
use Rattle.rank.specs.Order.{Arc, arc, among, fed, released, walk, order, whole, count_up, upto}

-- nodes and arcs, their order, and whether it is whole
pub record Row : Type 0 where
  pub nodes : List ℕ
  pub arcs : List Arc
  pub first_to_last : List ℕ
  pub all : Bool

abbrev row : List ℕ → List Arc → List ℕ → Bool → Row
row ns es l b = record { nodes = ns; arcs = es; first_to_last = l; all = b }

-- the row as the definitions give it
unfoldable pub given : Row → Row
given r = row r.nodes r.arcs (order r.nodes r.arcs) (whole r.nodes r.arcs)

unfoldable pub table : List Row
table =
    -- 9 > 0 has no live source
    row (upto 5) (arc 4 1 ∷ arc 0 3 ∷ arc 1 2 ∷ arc 4 2 ∷ arc 2 3 ∷ arc 9 0 ∷ []) (0 ∷ 4 ∷ 1 ∷ 2 ∷ 3 ∷ []) true
    -- two arcs from one source to one target: the target is queued at the last
    ∷ row (upto 3) (arc 0 1 ∷ arc 0 2 ∷ arc 0 1 ∷ []) (0 ∷ 2 ∷ 1 ∷ []) true
    -- 1 and 2 go round, and the order stops short of them and of 4, which they feed
    ∷ row (upto 5) (arc 0 1 ∷ arc 1 2 ∷ arc 2 1 ∷ arc 0 3 ∷ arc 2 4 ∷ []) (0 ∷ 3 ∷ []) false
    ∷ row (upto 1) (arc 0 0 ∷ []) [] false
    ∷ row (upto 0) (arc 0 0 ∷ []) [] true
    -- names of any size
    ∷ row (3 ∷ 5 ∷ 80 ∷ []) (arc 80 5 ∷ arc 5 3 ∷ []) (80 ∷ 5 ∷ 3 ∷ []) true
    ∷ []

pub right : map given table ≡ table
unfolding given table whole order walk released fed among count_up
right = refl
