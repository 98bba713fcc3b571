-- What reading makes of the bytes that the writer makes of rows (SPEC 16): the same rows, with the unused bytes of
-- names at zero.
use Prim.Native.Nat.{ℕ, zero, suc, ◌+◌, ◌-◌, ◌%◌, ◌≤◌}
use native.Mathlib.Omega.{arith}
use mathlib.Core.Path.{◌≡◌, refl, sym, ap, ◌∙◌}
use mathlib.Core.List.{List, [], ◌∷◌, ◌++◌, map, append_assoc}
use Rattle.std.specs.Prelude.{Option, None, Some, option_map}
use mathlib.Core.Bool.{Bool, true, false}
use lib.Dec.{leb, eqb}
use lib.ListN.{length, drop, get_or, length-append}
use lib.Seq.{drop_at, get_or-append-add}
use borrow.Author.Tests.{le-leb}
use Rattle.std.proofs.lemmas.Bool.{and_from}
use Rattle.lists.proofs.Member.{and_left, and_right, some_inj}
use Rattle.node.specs.Name.{named, text}
use Rattle.node.specs.declared.name.Name.{Name}
use Rattle.synthdef.specs.Rows.{every}
use Rattle.synthdef.specs.declared.def.DefNode.{DefNode}
use Rattle.synthdef.specs.declared.def.DefEdge.{DefEdge}
use Rattle.synthdef.specs.declared.def.Param.{Param}
use Rattle.def_book.specs.Held.{held}
use Rattle.def_book.specs.Bytes.{Row, node, edge, param, long, name_bytes, sorts_of, node_bytes, edge_bytes, param_bytes, row_bytes, joined}
use Rattle.def_book.specs.Rows.{is_record, name_at, name_fits, is_node, is_param, node_called, node_at, param_at, row_at, follow, rows_after, rows, size, more, gather, as_node, as_param}
use Rattle.def_book.specs.Read.{clean_name, clean_node, clean_param}
use Rattle.def_book.proofs.Held.{length_held, held_again, rest_zero, held_clean}
use Rattle.def_book.proofs.Walk.{Front, a_node, an_edge, a_param, no_row, front, as_node_lem, as_param_lem, rows_nil, rows_some}

-- ---- the sorts, there and back
values_back : (v g : Bool) → eqb (sorts_of v g % 2) 1 ≡ v
values_back false false = refl
values_back true false = refl
values_back false true = refl
values_back true true = refl

glides_back : (v g : Bool) → leb 2 (sorts_of v g) ≡ g
glides_back false false = refl
glides_back true false = refl
glides_back false true = refl
glides_back true true = refl

sorts_three : (v g : Bool) → leb (sorts_of v g) 3 ≡ true
sorts_three false false = refl
sorts_three true false = refl
sorts_three false true = refl
sorts_three true true = refl

-- ---- behind the 16 bytes of a name
module _ (p z : List ℕ) (h : length p ≡ 16) where
  past : (i : ℕ) → get_or (p ++ z) (16 + i) 0 ≡ get_or z i 0
  past i = ap (λ n. get_or (p ++ z) (n + i) 0) (sym h) ∙ get_or-append-add p z i 0

-- the name of a record whose first five bytes are these
name_back : (a b c e : ℕ) (n : Name) (z : List ℕ) → name_at (a ∷ b ∷ c ∷ e ∷ (name_bytes n ++ z)) ≡ clean_name n
name_back a b c e n z = ap (λ l. record { bytes = l; len = n.len }) (held_again 0 16 (text n) z)

clean_fits : (n : Name) → named n ≡ true → name_fits (clean_name n) ≡ true
clean_fits n h = and_from (named n) _ h (rest_zero 16 n.len n.bytes)

-- ---- one row
module _ (n : DefNode) (t : List ℕ) where
  kind_bytes : List ℕ
  kind_bytes = held 16 0 (text n.kind)

  behind : List ℕ
  behind = n.ports ∷ n.required ∷ sorts_of n.takes_values n.takes_glides ∷ n.in_port ∷ n.level_port ∷ n.amp_port ∷ t

  laid : node_bytes n ++ t ≡ 27 ∷ 0 ∷ 2 ∷ 0 ∷ n.kind.len ∷ (kind_bytes ++ behind)
  unfolding kind_bytes behind
  laid = ap (λ l. 27 ∷ 0 ∷ 2 ∷ 0 ∷ n.kind.len ∷ l) (append_assoc kind_bytes _ t)

  node_read : node_at (27 ∷ 0 ∷ 2 ∷ 0 ∷ n.kind.len ∷ (kind_bytes ++ behind)) ≡ clean_node n
  unfolding kind_bytes behind
  node_read =
      let at = past kind_bytes behind (length_held 0 16 (text n.kind)) in
      let name = name_back 27 0 2 0 n.kind behind in
      rw (name, at 0, at 1, at 2, at 3, at 4, at 5, values_back n.takes_values n.takes_glides, glides_back n.takes_values n.takes_glides)

  node_is : named n.kind ≡ true → is_node (27 ∷ 0 ∷ 2 ∷ 0 ∷ n.kind.len ∷ (kind_bytes ++ behind)) ≡ true
  unfolding kind_bytes behind
  node_is h =
      let p = length_held 0 16 (text n.kind) in
      let long : 27 ≤ length (27 ∷ 0 ∷ 2 ∷ 0 ∷ n.kind.len ∷ (kind_bytes ++ behind)) = simp length-append (omega arith) in
      let sorts : leb (get_or (kind_bytes ++ behind) 18 0) 3 ≡ true = ap (λ k. leb k 3) (past kind_bytes behind p 2) ∙ sorts_three n.takes_values n.takes_glides in
      let name : name_fits (name_at (27 ∷ 0 ∷ 2 ∷ 0 ∷ n.kind.len ∷ (kind_bytes ++ behind))) ≡ true =
      ap name_fits (name_back 27 0 2 0 n.kind behind) ∙ clean_fits n.kind h in
      and_from _ _ (le-leb 27 _ long) (and_from _ _ name sorts)

  node_back : named n.kind ≡ true → row_at (node_bytes n ++ t) ≡ Some (node (clean_node n))
  node_back h = ap row_at laid ∙ as_node_lem _ (node_is h) ∙ ap (λ m. Some (node m)) node_read

edge_back : (e : DefEdge) (t : List ℕ) → row_at (edge_bytes e ++ t) ≡ Some (edge e)
unfolding row_at
edge_back e t = let long : 7 ≤ length (edge_bytes e ++ t) = omega arith in rw (le-leb 7 (length (edge_bytes e ++ t)) long)

module _ (p : Param) (t : List ℕ) where
  name_bytes_lem : List ℕ
  name_bytes_lem = held 16 0 (text p.name)

  param_laid : param_bytes p ++ t ≡ 22 ∷ 0 ∷ 4 ∷ 0 ∷ p.name.len ∷ (name_bytes_lem ++ (p.node ∷ t))
  unfolding name_bytes_lem
  param_laid = ap (λ l. 22 ∷ 0 ∷ 4 ∷ 0 ∷ p.name.len ∷ l) (append_assoc name_bytes_lem _ t)

  param_read : param_at (22 ∷ 0 ∷ 4 ∷ 0 ∷ p.name.len ∷ (name_bytes_lem ++ (p.node ∷ t))) ≡ clean_param p
  unfolding name_bytes_lem
  param_read =
      let at = past name_bytes_lem (p.node ∷ t) (length_held 0 16 (text p.name)) in
      rw (name_back 22 0 4 0 p.name (p.node ∷ t), at 0)

  param_is : named p.name ≡ true → is_param (22 ∷ 0 ∷ 4 ∷ 0 ∷ p.name.len ∷ (name_bytes_lem ++ (p.node ∷ t))) ≡ true
  unfolding name_bytes_lem
  param_is h =
      let l = length_held 0 16 (text p.name) in
      let long : 22 ≤ length (22 ∷ 0 ∷ 4 ∷ 0 ∷ p.name.len ∷ (name_bytes_lem ++ (p.node ∷ t))) = simp length-append (omega arith) in
      let name : name_fits (name_at (22 ∷ 0 ∷ 4 ∷ 0 ∷ p.name.len ∷ (name_bytes_lem ++ (p.node ∷ t)))) ≡ true =
      ap name_fits (name_back 22 0 4 0 p.name (p.node ∷ t)) ∙ clean_fits p.name h in
      and_from _ _ (le-leb 22 _ long) name

  param_back : named p.name ≡ true → row_at (param_bytes p ++ t) ≡ Some (param (clean_param p))
  param_back h = ap row_at param_laid ∙ as_param_lem _ refl refl (param_is h) ∙ ap (λ m. Some (param m)) param_read

-- a row whose names are names, and what a book keeps of it
abbrev pub row_named : Row → Bool
row_named (node n) = named n.kind
row_named (edge e) = true
row_named (param p) = named p.name

abbrev pub clean_row : Row → Row
clean_row (node n) = node (clean_node n)
clean_row (edge e) = edge e
clean_row (param p) = param (clean_param p)

pub row_back : (r : Row) (t : List ℕ) → row_named r ≡ true → row_at (row_bytes r ++ t) ≡ Some (clean_row r)
row_back (node n) t h = node_back n t h
row_back (edge e) t h = edge_back e t
row_back (param p) t h = param_back p t h

-- the length that a record says is the number of its bytes
pub row_long : (r : Row) → length (row_bytes r) ≡ long r
row_long (node n) = simp length-append (omega (arith, length_held 0 16 (text n.kind)))
row_long (edge e) = refl
row_long (param p) = simp length-append (omega (arith, length_held 0 16 (text p.name)))

clean_long : (r : Row) → long (clean_row r) ≡ long r
clean_long (node n) = refl
clean_long (edge e) = refl
clean_long (param p) = refl

-- ---- rows one after the other
pub rows_back : (rs : List Row) → every row_named rs ≡ true → rows (joined (map row_bytes rs)) ≡ map clean_row rs
unfolding joined
rows_back [] h = rows_nil
rows_back (r ∷ rs) h =
    let rest = joined (map row_bytes rs) in
    let behind : drop (long (clean_row r)) (row_bytes r ++ rest) ≡ rest = drop_at (row_bytes r) rest (long (clean_row r)) (row_long r ∙ sym (clean_long r)) in
    rows_some (row_bytes r ++ rest) (clean_row r) (row_back r rest (and_left (row_named r) (every row_named rs) h))
    ∙ ap (λ s. clean_row r ∷ rows s) behind
    ∙ ap (λ l. clean_row r ∷ l) (rows_back rs (and_right (row_named r) (every row_named rs) h))

pub size_back : (rs : List Row) → size (map clean_row rs) ≡ length (joined (map row_bytes rs))
unfolding joined size
size_back [] = refl
size_back (r ∷ rs) =
    ap (λ k. k + size (map clean_row rs)) (clean_long r ∙ sym (row_long r))
    ∙ ap (λ k. length (row_bytes r) + k) (size_back rs)
    ∙ sym (length-append (row_bytes r) (joined (map row_bytes rs)))

-- ---- gathering what the rows of one sort hold
module _ {A : Type 0} (f : Row → Option A) where
  pub gather_append : (a b : List Row) → gather f (a ++ b) ≡ gather f a ++ gather f b
  unfolding gather
  gather_append [] b = refl
  gather_append (r ∷ a) b = ap (more (f r)) (gather_append a b) ∙ go (f r)
    where
      go : (o : Option A) → more o (gather f a ++ gather f b) ≡ more o (gather f a) ++ gather f b
      go None = refl
      go (Some x) = refl

  pub gather_all : {B : Type 0} (g : B → Row) (h : B → A) → ((x : B) → f (g x) ≡ Some (h x)) → (l : List B) → gather f (map g l) ≡ map h l
  unfolding gather
  gather_all g h e [] = refl
  gather_all g h e (x ∷ l) = ap (λ o. more o (gather f (map g l))) (e x) ∙ ap (λ m. h x ∷ m) (gather_all g h e l)

  pub gather_none : {B : Type 0} (g : B → Row) → ((x : B) → f (g x) ≡ None) → (l : List B) → gather f (map g l) ≡ []
  unfolding gather
  gather_none g e [] = refl
  gather_none g e (x ∷ l) = ap (λ o. more o (gather f (map g l))) (e x) ∙ gather_none g e l

  pub gather_map : (g : Row → Row) (h : A → A) → ((r : Row) → f (g r) ≡ option_map h (f r)) → (rs : List Row) → gather f (map g rs) ≡ map h (gather f rs)
  unfolding gather
  gather_map g h e [] = refl
  gather_map g h e (r ∷ rs) = ap (λ o. more o (gather f (map g rs))) (e r) ∙ ap (more (option_map h (f r))) (gather_map g h e rs) ∙ go (f r)
    where
      go : (o : Option A) → more (option_map h o) (map h (gather f rs)) ≡ map h (more o (gather f rs))
      go None = refl
      go (Some x) = refl

pub node_cleaned : (r : Row) → as_node (clean_row r) ≡ option_map clean_node (as_node r)
node_cleaned (node n) = refl
node_cleaned (edge e) = refl
node_cleaned (param p) = refl

pub param_cleaned : (r : Row) → as_param (clean_row r) ≡ option_map clean_param (as_param r)
param_cleaned (node n) = refl
param_cleaned (edge e) = refl
param_cleaned (param p) = refl

-- ---- the names of rows that were read have their unused bytes at zero already
name_clean : (s : List ℕ) → name_fits (name_at s) ≡ true → clean_name (name_at s) ≡ name_at s
name_clean s h =
    let zeros = and_right (named (name_at s)) _ h in
    ap (λ l. record { bytes = l; len = get_or s 4 0 }) (held_clean 16 (get_or s 4 0) (held 16 0 (drop 5 s)) (length_held 0 16 (drop 5 s)) zeros)

front_clean : (s : List ℕ) (o : Option Row) → Front s o → option_map clean_row o ≡ o
front_clean s o (a_node e) =
    let name = name_clean s (and_left (name_fits (name_at s)) _ (and_right (is_record 2 27 s) _ e)) in
    ap (λ (m : Name). Some (node (node_called m s))) name
front_clean s o (an_edge n e) = refl
front_clean s o (a_param n f e) =
    let name = name_clean s (and_right (is_record 4 22 s) _ e) in
    ap (λ (m : Name). Some (param (record { name = m; node = get_or s 21 0 }))) name
front_clean s o (no_row n e p) = refl

rows_cleaned : (s : List ℕ) (k : ℕ) → map clean_row (rows_after s k) ≡ rows_after s k
unfolding rows_after
rows_cleaned [] k = refl
rows_cleaned (b ∷ s) (suc k) = rows_cleaned s k
rows_cleaned (b ∷ s) zero = go (row_at (b ∷ s)) (front_clean (b ∷ s) (row_at (b ∷ s)) (front (b ∷ s))) (rows_cleaned s)
  where
    go : (o : Option Row) → option_map clean_row o ≡ o → ((k : ℕ) → map clean_row (rows_after s k) ≡ rows_after s k) → map clean_row (follow o (rows_after s)) ≡ follow o (rows_after s)
    go None e ih = refl
    go (Some r) e ih = let same : clean_row r ≡ r = some_inj e in cc (same, ih (long r - 1))

pub rows_clean : (s : List ℕ) → map clean_row (rows s) ≡ rows s
rows_clean s = rows_cleaned s 0
