-- The walk over a book's rows: which row stands at the front, and what is left behind it.
use Prim.Native.Nat.{ℕ, zero, suc, ◌≤◌}
use mathlib.Core.Path.{◌≡◌, refl, sym, ap, ◌∙◌}
use mathlib.Core.List.{List, [], ◌∷◌}
use Rattle.std.specs.Prelude.{Option, None, Some}
use mathlib.Core.Bool.{Bool, true, false, ◌&&◌, cond}
use lib.Dec.{leb, eqb}
use lib.ListN.{length, drop}
use borrow.Author.Tests.{leb-true}
use Rattle.lists.proofs.Member.{and_left, and_right, some_inj, none_some}
use Rattle.def_book.specs.Bytes.{Row, node, edge, param, long}
use Rattle.def_book.specs.Rows.{pair_at, is_record, name_at, name_fits, is_node, is_edge, is_param, node_at, edge_at, param_at, row_at, follow, rows_after, rows}

-- the row at the front, by what the three tests say
abbrev picked : List ℕ → Bool → Bool → Bool → Option Row
picked s a b c = cond a (Some (node (node_at s))) (cond b (Some (edge (edge_at s))) (cond c (Some (param (param_at s))) None))

pub data Front (s : List ℕ) : Option Row → Type 0 where
  a_node : is_node s ≡ true → Front s (Some (node (node_at s)))
  an_edge : is_node s ≡ false → is_edge s ≡ true → Front s (Some (edge (edge_at s)))
  a_param : is_node s ≡ false → is_edge s ≡ false → is_param s ≡ true → Front s (Some (param (param_at s)))
  no_row : is_node s ≡ false → is_edge s ≡ false → is_param s ≡ false → Front s None

pub front : (s : List ℕ) → Front s (row_at s)
unfolding row_at
front s = go (is_node s) refl (is_edge s) refl (is_param s) refl
  where
    go : (a : Bool) → is_node s ≡ a → (b : Bool) → is_edge s ≡ b → (c : Bool) → is_param s ≡ c → Front s (picked s a b c)
    go true e b f c g = a_node e
    go false e true f c g = an_edge e f
    go false e false f true g = a_param e f g
    go false e false f false g = no_row e f g

pub as_node_lem : (s : List ℕ) → is_node s ≡ true → row_at s ≡ Some (node (node_at s))
unfolding row_at
as_node_lem s n = ap (λ a. picked s a (is_edge s) (is_param s)) n

pub as_edge : (s : List ℕ) → is_node s ≡ false → is_edge s ≡ true → row_at s ≡ Some (edge (edge_at s))
unfolding row_at
as_edge s n e = ap (λ a. picked s a (is_edge s) (is_param s)) n ∙ ap (λ b. picked s false b (is_param s)) e

pub as_param_lem : (s : List ℕ) → is_node s ≡ false → is_edge s ≡ false → is_param s ≡ true → row_at s ≡ Some (param (param_at s))
unfolding row_at
as_param_lem s n e p = ap (λ a. picked s a (is_edge s) (is_param s)) n ∙ ap (λ b. picked s false b (is_param s)) e ∙ ap (picked s false false) p

pub as_none : (s : List ℕ) → is_node s ≡ false → is_edge s ≡ false → is_param s ≡ false → row_at s ≡ None
unfolding row_at
as_none s n e p = ap (λ a. picked s a (is_edge s) (is_param s)) n ∙ ap (λ b. picked s false b (is_param s)) e ∙ ap (picked s false false) p

-- a record lies in the bytes whole
pub record_fits : (kind size : ℕ) (s : List ℕ) → is_record kind size s ≡ true → size ≤ length s
record_fits kind size s h =
    leb-true size (length s) (and_right (eqb (pair_at s 2) kind) (leb size (length s)) (and_right (eqb (pair_at s 0) size) (eqb (pair_at s 2) kind && leb size (length s)) h))

node_record : (s : List ℕ) → is_node s ≡ true → is_record 2 27 s ≡ true
node_record s h = and_left (is_record 2 27 s) _ h

param_record : (s : List ℕ) → is_param s ≡ true → is_record 4 22 s ≡ true
param_record s h = and_left (is_record 4 22 s) (name_fits (name_at s)) h

front_fits : (s : List ℕ) (o : Option Row) → Front s o → (r : Row) → o ≡ Some r → long r ≤ length s
front_fits s o (a_node e) r p = let h : r ≡ node (node_at s) = some_inj (sym p) in rw h (record_fits 2 27 s (node_record s e))
front_fits s o (an_edge n e) r p = let h : r ≡ edge (edge_at s) = some_inj (sym p) in rw h (record_fits 3 7 s e)
front_fits s o (a_param n f e) r p = let h : r ≡ param (param_at s) = some_inj (sym p) in rw h (record_fits 4 22 s (param_record s e))
front_fits s o (no_row n e p) r q = absurd (none_some q)

pub row_fits : (s : List ℕ) (r : Row) → row_at s ≡ Some r → long r ≤ length s
row_fits s r e = front_fits s (row_at s) (front s) r e

-- ---- what is left
after_drop : (s : List ℕ) (k : ℕ) → rows_after s k ≡ rows (drop k s)
unfolding rows_after
after_drop [] zero = refl
after_drop [] (suc k) = refl
after_drop (b ∷ s) zero = refl
after_drop (b ∷ s) (suc k) = after_drop s k

pub rows_nil : rows [] ≡ []
unfolding rows_after
rows_nil = refl

pub rows_none : (s : List ℕ) → row_at s ≡ None → rows s ≡ []
unfolding rows_after
rows_none [] e = refl
rows_none (b ∷ s) e = ap (λ o. follow o (rows_after s)) e

pub rows_some : (s : List ℕ) (r : Row) → row_at s ≡ Some r → rows s ≡ r ∷ rows (drop (long r) s)
unfolding rows_after row_at
rows_some [] r e = absurd (none_some e)
rows_some (b ∷ s) r e = ap (λ o. follow o (rows_after s)) e ∙ go r
  where
    go : (r : Row) → follow (Some r) (rows_after s) ≡ r ∷ rows (drop (long r) (b ∷ s))
    go (node n) = ap (λ l. node n ∷ l) (after_drop s 26)
    go (edge x) = ap (λ l. edge x ∷ l) (after_drop s 6)
    go (param p) = ap (λ l. param p ∷ l) (after_drop s 21)
