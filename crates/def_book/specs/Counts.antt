-- What a reading says of a book that is beyond the limits of a definition (SPEC 16, 18): how many nodes and edges it has, as given. A seal
-- is asked for these before all else.
use Rattle.std.specs.Prelude.{ℕ, ◌≡◌, List, false}
use Rattle.lists.specs.Count.{count}
use Rattle.synthdef.specs.Limits.{allowed}
use Rattle.def_book.specs.Read.{limits, read_book, blank_def}
use Rattle.def_book.specs.WellFormed.{WellFormed, of_node, of_edge}

-- the book is a heading and records, and so many of these are nodes and edges, however it is taken apart
pub record Counts (s : List ℕ) (nodes edges : ℕ) : Type 0 where
  pub book : WellFormed s
  pub each : (w : WellFormed s) → (nodes ≡ count of_node w.others) × (edges ≡ count of_edge w.others)

abbrev pub CountsSaid : Type 0
CountsSaid = (s : List ℕ) (nodes edges : ℕ) → read_book s ≡ limits nodes edges → Counts s nodes edges

-- what stands for such a book's definition is refused by 9 as the book's own is
abbrev pub BlankRefused : Type 0
BlankRefused = (nodes edges : ℕ) → allowed (blank_def nodes edges) ≡ false
