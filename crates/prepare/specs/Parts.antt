-- What the parts of a prepare compute, by rows of the node table. Nothing here has to be believed.
use Rattle.std.specs.Prelude.{ℕ, suc, ◌+◌, ◌*◌, ◌<◌, ◌≤◌, min, List, [], ◌∷◌, map, Bool, false, ◌&&◌, ◌||◌, not, ◌≡◌, length, take, get_or, eqb, ltb}
use Rattle.node.specs.declared.record.Node.{Node}
use Rattle.node.specs.declared.record.Edge.{Edge}
use Rattle.rank.specs.Order.{upto}
use Rattle.rank.specs.Names.{row_of}
use Rattle.rank.specs.declared.Ranking.{Ranking}
use Rattle.prepare.specs.Live.{live_ids}
use Rattle.prepare.specs.Required.{any, bit}

-- the ids of the live nodes are the first `count` of these
pub record Lived (ids : List ℕ) (count : ℕ) (nodes : List Node) : Type 0 where
  pub long : length ids ≡ 512
  pub few : count ≤ 512
  pub is : take count ids ≡ live_ids nodes

-- the numbers rise
pub record Rising (l : List ℕ) : Type 0 where
  pub rises : (i j : ℕ) → i < j → j < length l → get_or l i 0 < get_or l j 0

abbrev pub source_row : List ℕ → Edge → ℕ
source_row ids e = row_of ids e.from.0

abbrev pub target_row : List ℕ → Edge → ℕ
target_row ids e = row_of ids e.to.0

-- the rows of the edges' sources and targets, edge by edge
pub record Ends (from to ids : List ℕ) (edges : List Edge) : Type 0 where
  pub from_long : length from ≡ 1024
  pub to_long : length to ≡ 1024
  pub from_is : take (length edges) from ≡ map (source_row ids) edges
  pub to_is : take (length edges) to ≡ map (target_row ids) edges

-- ---- required ports
pub record Blank (l : List Bool) : Type 0 where
  pub long : length l ≡ 32768
  pub none : (j : ℕ) → get_or l j false ≡ false

-- one of the edges, whose ends are at the rows `from` and `to`, goes from a row below n to port p of row r
unfoldable pub plugs : ℕ → List ℕ → List ℕ → List Edge → ℕ → ℕ → Bool
plugs n [] ts es r p = false
plugs n (f ∷ fs) [] es r p = false
plugs n (f ∷ fs) (t ∷ ts) [] r p = false
plugs n (f ∷ fs) (t ∷ ts) (e ∷ es) r p = (ltb f n && (eqb t r && eqb e.port p)) || plugs n fs ts es r p

pub record Plugged (flags : List Bool) (n : ℕ) (from to : List ℕ) (edges : List Edge) : Type 0 where
  pub long : length flags ≡ 32768
  pub is : (r p : ℕ) → r < n → p < 64 → get_or flags (r * 64 + p) false ≡ plugs n from to edges r p

unfoldable pub ports_lack : List Bool → ℕ → ℕ → ℕ → Bool
ports_lack flags row ports required = any (λ p. bit required p && not (get_or flags (row * 64 + p) false)) (upto (min ports 64))

unfoldable pub rows_lack : List Bool → List Node → ℕ → Bool
rows_lack flags [] row = false
rows_lack flags (x ∷ l) row = ports_lack flags row x.ports x.required || rows_lack flags l (suc row)

-- ---- the ranking: each of its rows is one of the first n
pub record RowsIn (n : ℕ) (r : Ranking) : Type 0 where
  pub long : length r.rows.rows ≡ 512
  pub few : r.rows.count ≤ 512
  pub below : (j : ℕ) → j < r.rows.count → get_or r.rows.rows j 0 < n
