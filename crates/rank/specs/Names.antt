-- Nodes by any names, and the same nodes by the rows in which their names stand. Nothing here has to be believed:
-- proofs/Names.antt shows that the order is the same.
use Rattle.std.specs.Prelude.{ℕ, zero, suc, List, [], ◌∷◌, cond, eqb}
use Rattle.rank.specs.Order.{Arc, arc}

-- the row of the first name that is x; past the rows where none is
unfoldable pub row_of : List ℕ → ℕ → ℕ
row_of [] x = zero
row_of (i ∷ names) x = cond (eqb i x) zero (suc (row_of names x))

-- the arc between rows; an end that is no node is past the rows
unfoldable pub row_arc : List ℕ → Arc → Arc
row_arc names e = arc (row_of names e.from) (row_of names e.to)
