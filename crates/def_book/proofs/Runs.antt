-- The reader's tests and the plain statements on runs of bytes say the same: a test on bytes that go on behind a record, and the statement
-- on the record alone.
use Prim.Native.Nat.{ℕ, zero, suc, ◌+◌, ◌-◌, ◌≤◌, ◌<◌}
use native.Mathlib.Omega.{arith}
use mathlib.Core.Path.{◌≡◌, refl, sym, ap, ◌∙◌}
use mathlib.Core.Logic.{inl, inr, ⊎_elim}
use mathlib.Core.List.{List, [], ◌∷◌, ◌++◌}
use Rattle.std.specs.Prelude.{Option, None, Some, is_some}
use mathlib.Core.Bool.{true, false, ◌&&◌}
use lib.Dec.{leb, eqb}
use lib.ListN.{length, take, drop, get_or, length-append, length-drop, take-append-drop, get_or-append}
use lib.Seq.{get_or-take, get_or-drop, length-take-le, drop_at}
use borrow.Author.Tests.{le-leb, leb-true, eq-eqb, eqb-true}
use Rattle.std.proofs.lemmas.Bool.{and_from}
use Rattle.lists.specs.Member.{In}
use Rattle.lists.proofs.Member.{and_left, and_right, some_inj, none_some}
use Rattle.lists.specs.Count.{count, more as counted}
use Rattle.node.specs.Name.{named}
use Rattle.node.proofs.NameLaws.{name_long}
use Rattle.synthdef.specs.Rows.{every}
use Rattle.def_book.specs.Held.{held}
use Rattle.def_book.specs.Bytes.{Row, node, edge, param, long, joined}
use Rattle.def_book.specs.Rows.{pair_at, is_record, is_zero, name_at, name_fits, is_node, node_at, edge_at, param_at, row_at, rows, size, more, gather, as_node, as_edge as edge_of, nodes_of, edges_of}
use Rattle.def_book.specs.WellFormed.{IsRecord, IsName, IsRow, of_node, of_edge}
use Rattle.def_book.proofs.Held.{length_held, get_d_held}
use Rattle.def_book.proofs.Walk.{Front, a_node, an_edge, a_param, no_row, front, as_node_lem, as_edge, as_param_lem, record_fits, rows_nil, rows_none, rows_some}

-- ---- a record
module _ (kind n : ℕ) (s : List ℕ) where
  pub record_says : is_record kind n s ≡ true → (pair_at s 0 ≡ n) × (pair_at s 2 ≡ kind) × (n ≤ length s)
  record_says h =
      let h1 = and_right (eqb (pair_at s 0) n) _ h in
      (eqb-true _ _ (and_left (eqb (pair_at s 0) n) _ h), eqb-true _ _ (and_left (eqb (pair_at s 2) kind) (leb n (length s)) h1), record_fits kind n s h)

  says_record : pair_at s 0 ≡ n → pair_at s 2 ≡ kind → n ≤ length s → is_record kind n s ≡ true
  says_record a b c = and_from _ _ (eq-eqb _ _ a) (and_from _ _ (eq-eqb _ _ b) (le-leb _ _ c))

  -- the first n bytes
  pub record_cut : 4 ≤ n → is_record kind n s ≡ true → IsRecord kind n (take n s)
  record_cut f h =
      let r = record_says h in
      let at : (i : ℕ) → i < 4 → get_or (take n s) i 0 ≡ get_or s i 0 = λ i b. get_or-take n s i 0 (omega arith) in
      record {
        long = length-take-le n s r.2;
        says_length = rw (at 0 (omega arith), at 1 (omega arith)) r.0;
        says_kind = rw (at 2 (omega arith), at 3 (omega arith)) r.1;
      }

  -- bytes that go on
  pub record_goes_on : 4 ≤ n → (t : List ℕ) → IsRecord kind n s → is_record kind n (s ++ t) ≡ true
  record_goes_on f t r = go (at 0 (omega arith)) (at 1 (omega arith)) (at 2 (omega arith)) (at 3 (omega arith))
    where
      at : (i : ℕ) → i < 4 → get_or (s ++ t) i 0 ≡ get_or s i 0
      at i b = get_or-append s t 0 i (omega (arith, r.long))

      go : get_or (s ++ t) 0 0 ≡ get_or s 0 0 → get_or (s ++ t) 1 0 ≡ get_or s 1 0 → get_or (s ++ t) 2 0 ≡ get_or s 2 0 → get_or (s ++ t) 3 0 ≡ get_or s 3 0 → is_record kind n (s ++ t) ≡ true
      go a b c d =
          let fits : n ≤ length (s ++ t) = simp length-append (omega (arith, r.long)) in
          let first : pair_at (s ++ t) 0 ≡ n = rw (a, b) r.says_length in
          let second : pair_at (s ++ t) 2 ≡ kind = rw (c, d) r.says_kind in
          and_from _ _ (eq-eqb _ _ first) (and_from _ _ (eq-eqb _ _ second) (le-leb _ _ fits))

-- ---- a name
zeros_at : (l : List ℕ) (i : ℕ) → every is_zero l ≡ true → get_or l i 0 ≡ 0
zeros_at [] i h = refl
zeros_at (x ∷ l) zero h = eqb-true x 0 (and_left (is_zero x) (every is_zero l) h)
zeros_at (x ∷ l) (suc i) h = zeros_at l i (and_right (is_zero x) (every is_zero l) h)

at_zeros : (l : List ℕ) → ((i : ℕ) → i < length l → get_or l i 0 ≡ 0) → every is_zero l ≡ true
at_zeros [] h = refl
at_zeros (x ∷ l) h = and_from _ _ (eq-eqb x 0 (h 0 (omega arith))) (at_zeros l (λ i b. h (suc i) (omega arith)))

-- byte i of the 16
name_byte : (s : List ℕ) (i : ℕ) → i < 16 → get_or (held 16 0 (drop 5 s)) i 0 ≡ get_or s (5 + i) 0
name_byte s i h = get_d_held 0 16 (drop 5 s) i h ∙ get_or-drop 5 s i 0

name_unused : (s : List ℕ) → every is_zero (drop (get_or s 4 0) (held 16 0 (drop 5 s))) ≡ true → (i : ℕ) → get_or s 4 0 ≤ i → i < 16 → get_or s (5 + i) 0 ≡ 0
name_unused s h i b k =
    let e : get_or s 4 0 + (i - get_or s 4 0) ≡ i = omega arith in
    sym (name_byte s i k)
    ∙ ap (λ j. get_or (held 16 0 (drop 5 s)) j 0) (sym e)
    ∙ sym (get_or-drop (get_or s 4 0) (held 16 0 (drop 5 s)) (i - get_or s 4 0) 0)
    ∙ zeros_at (drop (get_or s 4 0) (held 16 0 (drop 5 s))) (i - get_or s 4 0) h

unused_name : (s : List ℕ) → ((i : ℕ) → get_or s 4 0 ≤ i → i < 16 → get_or s (5 + i) 0 ≡ 0) → every is_zero (drop (get_or s 4 0) (held 16 0 (drop 5 s))) ≡ true
unused_name s h = at_zeros (drop (get_or s 4 0) (held 16 0 (drop 5 s))) zero_at
  where
    zero_at : (i : ℕ) → i < length (drop (get_or s 4 0) (held 16 0 (drop 5 s))) → get_or (drop (get_or s 4 0) (held 16 0 (drop 5 s))) i 0 ≡ 0
    zero_at i b =
        let inside : get_or s 4 0 + i < 16 = omega (arith, length-drop (get_or s 4 0) (held 16 0 (drop 5 s)), length_held 0 16 (drop 5 s)) in
        get_or-drop (get_or s 4 0) (held 16 0 (drop 5 s)) i 0 ∙ name_byte s (get_or s 4 0 + i) inside ∙ h (get_or s 4 0 + i) (omega arith) inside

-- the name of bytes that are cut, or go on, behind their 21st
name_cut : (n : ℕ) (s : List ℕ) → 21 ≤ n → name_fits (name_at s) ≡ true → IsName (take n s)
name_cut n s f h =
    let size : get_or (take n s) 4 0 ≡ get_or s 4 0 = get_or-take n s 4 0 (omega arith) in
    let many = name_long (get_or s 4 0) (and_left (named (name_at s)) _ h) in
    let zeros = name_unused s (and_right (named (name_at s)) _ h) in
    record {
      some_byte = omega arith;
      sixteen = omega arith;
      unused = λ i b k. get_or-take n s (5 + i) 0 (omega arith) ∙ zeros i (omega arith) k;
    }

name_goes_on : (r t : List ℕ) → 21 ≤ length r → IsName r → name_fits (name_at (r ++ t)) ≡ true
name_goes_on r t f n =
    let size : get_or (r ++ t) 4 0 ≡ get_or r 4 0 = get_or-append r t 0 4 (omega arith) in
    let some_byte : 1 ≤ get_or (r ++ t) 4 0 = omega (arith, n.some_byte) in
    let sixteen : get_or (r ++ t) 4 0 ≤ 16 = omega (arith, n.sixteen) in
    let zeros = unused_name (r ++ t) (λ i b k. get_or-append r t 0 (5 + i) (omega arith) ∙ n.unused i (omega arith) k) in
    and_from _ _ (and_from _ _ (le-leb _ _ some_byte) (le-leb _ _ sixteen)) zeros

-- ---- a row
-- a record of another length is none of this kind
other_length : (kind n m : ℕ) (s : List ℕ) → pair_at s 0 ≡ m → eqb m n ≡ false → is_record kind n s ≡ false
other_length kind n m s p q = ap (λ k. eqb k n && (eqb (pair_at s 2) kind && leb n (length s))) p ∙ ap (λ b. b && (eqb (pair_at s 2) kind && leb n (length s))) q

no_node : (m : ℕ) (s : List ℕ) → pair_at s 0 ≡ m → eqb m 27 ≡ false → is_node s ≡ false
no_node m s p q = ap (λ b. b && (name_fits (name_at s) && leb (get_or s 23 0) 3)) (other_length 2 27 m s p q)

-- a run of bytes is what was read as this row
pub record Run (r : List ℕ) (x : Row) : Type 0 where
  pub is : IsRow r
  pub node_or_not : of_node r ≡ is_some (as_node x)

front_cut : (s : List ℕ) (o : Option Row) → Front s o → (x : Row) → o ≡ Some x → Run (take (long x) s) x
front_cut s o (a_node e) x p =
    let h : x ≡ node (node_at s) = some_inj (sym p) in
    let rest = and_right (is_record 2 27 s) _ e in
    let framed = record_cut 2 27 s (omega arith) (and_left (is_record 2 27 s) _ e) in
    let sorts : get_or s 23 0 ≤ 3 = leb-true (get_or s 23 0) 3 (and_right (name_fits (name_at s)) _ rest) in
    let there : get_or (take 27 s) 23 0 ≤ 3 = omega (arith, get_or-take 27 s 23 0 (omega arith)) in
    let named = name_cut 27 s (omega arith) (and_left (name_fits (name_at s)) _ rest) in
    rw h (record { is = inl (record { framed = framed; named = named; sorts = there }); node_or_not = eq-eqb _ 2 framed.says_kind })
front_cut s o (an_edge n e) x p =
    let h : x ≡ edge (edge_at s) = some_inj (sym p) in
    let framed = record_cut 3 7 s (omega arith) e in
    rw h (record { is = inr (inl framed); node_or_not = ap (λ k. eqb k 2) framed.says_kind })
front_cut s o (a_param n f e) x p =
    let h : x ≡ param (param_at s) = some_inj (sym p) in
    let framed = record_cut 4 22 s (omega arith) (and_left (is_record 4 22 s) (name_fits (name_at s)) e) in
    let named = name_cut 22 s (omega arith) (and_right (is_record 4 22 s) (name_fits (name_at s)) e) in
    rw h (record { is = inr (inr (record { framed = framed; named = named })); node_or_not = ap (λ k. eqb k 2) framed.says_kind })
front_cut s o (no_row n e f) x p = absurd (none_some p)

pub row_cut : (s : List ℕ) (x : Row) → row_at s ≡ Some x → Run (take (long x) s) x
row_cut s x e = front_cut s (row_at s) (front s) x e

-- bytes that begin with a row, whatever goes on behind it
pub record Begins (r t : List ℕ) : Type 0 where
  pub row : Row
  pub read : row_at (r ++ t) ≡ Some row
  pub size : long row ≡ length r
  pub node_or_not : is_some (as_node row) ≡ of_node r
  pub edge_or_not : is_some (edge_of row) ≡ of_edge r

pub row_goes_on : (r t : List ℕ) → IsRow r → Begins r t
row_goes_on r t (inl n) =
    let framed = record_goes_on 2 27 r (omega arith) t n.framed in
    let name = name_goes_on r t (omega (arith, n.framed.long)) n.named in
    let sorts : get_or (r ++ t) 23 0 ≤ 3 = omega (arith, get_or-append r t 0 23 (omega (arith, n.framed.long)), n.sorts) in
    record {
      row = node (node_at (r ++ t));
      read = as_node_lem (r ++ t) (and_from _ _ framed (and_from _ _ name (le-leb _ _ sorts)));
      size = sym n.framed.long;
      node_or_not = sym (eq-eqb _ 2 n.framed.says_kind);
      edge_or_not = sym (ap (λ k. eqb k 3) n.framed.says_kind);
    }
row_goes_on r t (inr (inl e)) =
    let framed = record_goes_on 3 7 r (omega arith) t e in
    record {
      row = edge (edge_at (r ++ t));
      read = as_edge (r ++ t) (no_node 7 (r ++ t) (record_says 3 7 (r ++ t) framed).0 refl) framed;
      size = sym e.long;
      node_or_not = sym (ap (λ k. eqb k 2) e.says_kind);
      edge_or_not = sym (eq-eqb _ 3 e.says_kind);
    }
row_goes_on r t (inr (inr p)) =
    let framed = record_goes_on 4 22 r (omega arith) t p.framed in
    let name = name_goes_on r t (omega (arith, p.framed.long)) p.named in
    let says = (record_says 4 22 (r ++ t) framed).0 in
    record {
      row = param (param_at (r ++ t));
      read = as_param_lem (r ++ t) (no_node 22 (r ++ t) says refl) (other_length 3 7 22 (r ++ t) says refl) (and_from _ _ framed name);
      size = sym p.framed.long;
      node_or_not = sym (ap (λ k. eqb k 2) p.framed.says_kind);
      edge_or_not = sym (ap (λ k. eqb k 3) p.framed.says_kind);
    }

-- ---- rows one after the other
-- how many rows are of a sort, from one row more
length_more : {A : Type 0} (o : Option A) (l : List A) → length (more o l) ≡ counted (is_some o) (length l)
length_more None l = refl
length_more (Some x) l = refl

-- rows that stand in bytes are read, up to the end
pub record AllRead (rs : List (List ℕ)) : Type 0 where
  pub size : size (rows (joined rs)) ≡ length (joined rs)
  pub nodes : length (nodes_of (rows (joined rs))) ≡ count of_node rs
  pub edges : length (edges_of (rows (joined rs))) ≡ count of_edge rs

pub read_all : (rs : List (List ℕ)) → ((r : List ℕ) → In r rs → IsRow r) → AllRead rs
unfolding joined size gather
read_all [] h = record { size = ap size rows_nil; nodes = ap (λ l. length (nodes_of l)) rows_nil; edges = ap (λ l. length (edges_of l)) rows_nil }
read_all (r ∷ rs) h =
    let ih = read_all rs (λ x i. h x (inr i)) in
    let b = row_goes_on r (joined rs) (h r (inl refl)) in
    let there : rows (r ++ joined rs) ≡ b.row ∷ rows (joined rs) =
    rows_some (r ++ joined rs) b.row b.read ∙ ap (λ s. b.row ∷ rows s) (drop_at r (joined rs) (long b.row) (sym b.size)) in
    record {
      size = ap size there ∙ omega (arith, b.size, ih.size, length-append r (joined rs));
      nodes = ap (λ l. length (nodes_of l)) there ∙ length_more (as_node b.row) (nodes_of (rows (joined rs))) ∙ ap (λ c. counted c (length (nodes_of (rows (joined rs))))) b.node_or_not ∙ ap (counted (of_node r)) ih.nodes;
      edges = ap (λ l. length (edges_of l)) there ∙ length_more (edge_of b.row) (edges_of (rows (joined rs))) ∙ ap (λ c. counted c (length (edges_of (rows (joined rs))))) b.edge_or_not ∙ ap (counted (of_edge r)) ih.edges;
    }

-- the runs of bytes of rows
unfoldable pub cut : List Row → List ℕ → List (List ℕ)
cut [] s = []
cut (x ∷ xs) s = take (long x) s ∷ cut xs (drop (long x) s)

-- rows that were read up to the end are runs of bytes that make up the whole
pub record Runs (xs : List Row) (s : List ℕ) : Type 0 where
  pub whole : joined (cut xs s) ≡ s
  pub each : (r : List ℕ) → In r (cut xs s) → IsRow r
  pub nodes : count of_node (cut xs s) ≡ length (nodes_of xs)

first_row : (s : List ℕ) (x : Row) (xs : List Row) → rows s ≡ x ∷ xs → (row_at s ≡ Some x) × (rows (drop (long x) s) ≡ xs)
first_row s x xs h = go (row_at s) refl
  where
    go : (o : Option Row) → row_at s ≡ o → (row_at s ≡ Some x) × (rows (drop (long x) s) ≡ xs)
    go None e = let n = rows_none s e in let z : ◌≡◌ {A = ℕ} 0 1 = cc in absurd (omega arith)
    go (Some y) e =
        let m = rows_some s y e in
        let same : y ≡ x = cc in
        let left : rows (drop (long y) s) ≡ xs = cc in
        (e ∙ ap Some same, ap (λ z. rows (drop (long z) s)) (sym same) ∙ left)

empty : (s : List ℕ) → 0 ≡ length s → [] ≡ s
empty [] h = refl
empty (x ∷ s) h = absurd (omega arith)

pub cut_all : (xs : List Row) (s : List ℕ) → rows s ≡ xs → size xs ≡ length s → Runs xs s
unfolding joined size gather cut
cut_all [] s e h = record { whole = empty s h; each = λ r i. absurd i; nodes = refl }
cut_all (x ∷ xs) s e h =
    let f = first_row s x xs e in
    let rest : size xs ≡ length (drop (long x) s) = omega (arith, length-drop (long x) s) in
    let ih = cut_all xs (drop (long x) s) f.1 rest in
    let run = row_cut s x f.0 in
    record {
      whole = ap (λ t. take (long x) s ++ t) ih.whole ∙ take-append-drop (long x) s;
      each = λ r i. ⊎_elim (λ p. row_same p run.is) (ih.each r) i;
      nodes = ap (counted (of_node (take (long x) s))) ih.nodes ∙ ap (λ b. counted b (length (nodes_of xs))) run.node_or_not ∙ sym (length_more (as_node x) (nodes_of xs));
    }
  where
    row_same : {a b : List ℕ} → a ≡ b → IsRow b → IsRow a
    row_same p h = rw p h
