-- What holds of books, whatever code reads and writes them: reading what the writer makes of a definition restores it; two accepted books
-- are rewritten to equal bytes exactly when their definitions are equal; what is accepted is within the limits; and 18 is
-- given exactly where a book is not well formed.
use Prim.Native.Nat.{ℕ, ◌+◌, ◌≤◌}
use native.Mathlib.Omega.{arith}
use mathlib.Core.Path.{◌≡◌, refl, sym, ap, ◌∙◌}
use mathlib.Core.Logic.{◌↔◌}
use mathlib.Core.List.{List, [], ◌∷◌, ◌++◌, map, append-nil, map-map}
use mathlib.Core.Bool.{Bool, true, false, cond}
use lib.Dec.{leb, eqb}
use lib.ListN.{length, take, drop, get_or, length-map, take-append-drop, get_or-append}
use lib.Seq.{length-take-le, take-append_seam, get_or-take, drop_at}
use borrow.Author.Tests.{le-leb, eq-eqb, eqb-true}
use Rattle.std.proofs.lemmas.Bool.{and_from}
use Rattle.std.proofs.lemmas.List.{map-append}
use Rattle.lists.proofs.Member.{and_left, and_right}
use Rattle.lists.specs.Written.{written}
use Rattle.node.specs.Name.{named, text}
use Rattle.node.specs.declared.name.Name.{Name}
use Rattle.def_book.specs.Held.{held}
use Rattle.synthdef.specs.Rows.{every}
use Rattle.synthdef.specs.Tables.{node_rows, edge_rows, param_rows, no_edge}
use Rattle.synthdef.specs.Limits.{node_allowed, param_allowed, counts_allowed, allowed}
use Rattle.synthdef.specs.declared.def.DefNode.{DefNode}
use Rattle.synthdef.specs.declared.def.DefEdge.{DefEdge}
use Rattle.synthdef.specs.declared.def.Param.{Param}
use Rattle.synthdef.specs.declared.def.SynthDef.{SynthDef}
use Rattle.def_book.specs.Bytes.{Row, node, edge, param, row_bytes, joined, rows_in, book_of}
use Rattle.def_book.specs.Rows.{is_heading, rows, size, gather, as_node, as_edge, as_param, nodes_of, edges_of, params_of}
use Rattle.def_book.specs.Read.{Read, gives, malformed, limits, read_number, blank_node, blank_param, def_of, within, read_rows, read_book, clean_name, clean_node, clean_param, canonical, Restored}
use Rattle.def_book.specs.Write.{write_book}
use Rattle.def_book.specs.WellFormed.{WellFormed}
use Rattle.def_book.proofs.Held.{take_held, rows_held}
use Rattle.def_book.proofs.Runs.{record_cut, record_goes_on, read_all, cut, cut_all}
use Rattle.def_book.proofs.Restores.{row_named, clean_row, rows_back, size_back, rows_clean, node_cleaned, param_cleaned, gather_append, gather_map, gather_all, gather_none}
use Rattle.def_book.proofs.Clean.{rows_few, counts_there, nodes_there, params_there, rows_allowed_lem, canonical_allowed}

given : (d : SynthDef) → allowed d ≡ true → within d ≡ gives d
given d h = ap (λ b. cond b (gives d) (limits d.nodes.count d.edges.count)) h

-- ---- the rows of a definition
every_append : {A : Type 0} (q : A → Bool) (a b : List A) → every q a ≡ true → every q b ≡ true → every q (a ++ b) ≡ true
every_append q [] b h k = k
every_append q (x ∷ a) b h k = and_from (q x) _ (and_left (q x) (every q a) h) (every_append q a b (and_right (q x) (every q a) h) k)

every_mapped : {A B : Type 0} (q : B → Bool) (r : A → Bool) (f : A → B) → ((x : A) → r x ≡ true → q (f x) ≡ true) → (l : List A) → every r l ≡ true → every q (map f l) ≡ true
every_mapped q r f e [] h = refl
every_mapped q r f e (x ∷ l) h = and_from (q (f x)) _ (e x (and_left (r x) (every r l) h)) (every_mapped q r f e l (and_right (r x) (every r l) h))

module _ (d : SynthDef) where
  abbrev ns : List DefNode
  ns = node_rows d.nodes

  abbrev es : List DefEdge
  es = edge_rows d.edges

  abbrev ps : List Param
  ps = param_rows d.params

  -- each name of an allowed definition is one
  rows_named : allowed d ≡ true → every row_named (rows_in d) ≡ true
  rows_named h =
      let r = rows_allowed_lem d h in
      let nodes = nodes_there ns es ps d.output r in
      let params = params_there ns es ps d.output r in
      every_append row_named (map node ns) _ (every_mapped row_named node_allowed node (λ n a. and_left (named n.kind) _ a) ns nodes)
      (every_append row_named (map edge es) _ (every_mapped row_named (λ e. true) edge (λ e a. refl) es (all es)) (every_mapped row_named (param_allowed (length ns)) param (λ p a. and_left (named p.name) _ a) ps params))
    where
      all : (l : List DefEdge) → every (λ e. true) l ≡ true
      all [] = refl
      all (e ∷ l) = all l

  -- the rows as they are read back, sort by sort
  kept : List Row
  kept = map (λ n. node (clean_node n)) ns ++ (map edge es ++ map (λ p. param (clean_param p)) ps)

  rows_kept : map clean_row (rows_in d) ≡ kept
  unfolding kept
  rows_kept =
      map-append clean_row (map node ns) (map edge es ++ map param ps)
      ∙ ap (λ l. map clean_row (map node ns) ++ l) (map-append clean_row (map edge es) (map param ps))
      ∙ (cc (map-map clean_row node ns, map-map clean_row edge es, map-map clean_row param ps))

  nodes_kept : nodes_of kept ≡ map clean_node ns
  unfolding kept
  nodes_kept =
      gather_append as_node (map (λ n. node (clean_node n)) ns) _
      ∙ ap (λ l. gather as_node (map (λ n. node (clean_node n)) ns) ++ l) (gather_append as_node (map edge es) _)
      ∙ rw (gather_all as_node (λ n. node (clean_node n)) clean_node (λ n. refl) ns, gather_none as_node edge (λ e. refl) es, gather_none as_node (λ p. param (clean_param p)) (λ p. refl) ps) (append-nil (map clean_node ns))

  edges_kept : edges_of kept ≡ es
  unfolding kept
  edges_kept =
      gather_append as_edge (map (λ n. node (clean_node n)) ns) _
      ∙ ap (λ l. gather as_edge (map (λ n. node (clean_node n)) ns) ++ l) (gather_append as_edge (map edge es) _)
      ∙ rw (gather_none as_edge (λ n. node (clean_node n)) (λ n. refl) ns, gather_all as_edge edge (λ e. e) (λ e. refl) es, gather_none as_edge (λ p. param (clean_param p)) (λ p. refl) ps) (append-nil (map (λ e. e) es) ∙ map_id es)
    where
      map_id : (l : List DefEdge) → map (λ e. e) l ≡ l
      map_id [] = refl
      map_id (e ∷ l) = ap (λ m. e ∷ m) (map_id l)

  params_kept : params_of kept ≡ map clean_param ps
  unfolding kept
  params_kept =
      gather_append as_param (map (λ n. node (clean_node n)) ns) _
      ∙ ap (λ l. gather as_param (map (λ n. node (clean_node n)) ns) ++ l) (gather_append as_param (map edge es) _)
      ∙ rw (gather_none as_param (λ n. node (clean_node n)) (λ n. refl) ns, gather_none as_param edge (λ e. refl) es, gather_all as_param (λ p. param (clean_param p)) clean_param (λ p. refl) ps)

  def_kept : def_of d.output kept ≡ canonical d
  def_kept = rw (nodes_kept, edges_kept, params_kept)

  -- "Reading its output restores the definition"
  pub restores : allowed d ≡ true → read_book (book_of d) ≡ gives (canonical d)
  unfolding read_book read_rows
  restores h =
      let body = joined (map row_bytes (rows_in d)) in
      let there : rows body ≡ kept = rows_back (rows_in d) (rows_named h) ∙ rows_kept in
      let taken : size (rows body) ≡ length body = ap size (rows_back (rows_in d) (rows_named h)) ∙ size_back (rows_in d) in
      let many : length (nodes_of (rows body)) ≡ length ns = ap (λ l. length (nodes_of l)) there ∙ ap length nodes_kept ∙ length-map ns clean_node in
      let def : def_of d.output (rows body) ≡ canonical d = ap (def_of d.output) there ∙ def_kept in
      let long : 6 ≤ length (book_of d) = omega arith in
      rw (le-leb 6 (length (book_of d)) long, eq-eqb (size (rows body)) (length body) taken, eq-eqb (length (nodes_of (rows body))) (length ns) many)
      (ap within def ∙ given (canonical d) (canonical_allowed d h))

-- its output: the bytes that the writer answers as its length
pub output_restores : (d : SynthDef) (out : List ℕ) → allowed d ≡ true → length (book_of d) ≤ length out → read_book (take (length (book_of d)) (write_book d out)) ≡ gives (canonical d)
unfolding write_book
output_restores d out h l =
    let there : write_book d out ≡ written (book_of d) out =
    ap (λ b. cond b (cond (leb (length (book_of d)) (length out)) (written (book_of d) out) out) out) h ∙ ap (λ b. cond b (written (book_of d) out) out) (le-leb (length (book_of d)) (length out) l) in
    ap (λ s. read_book (take (length (book_of d)) s)) there ∙ ap read_book (take-append_seam (book_of d) (drop (length (book_of d)) out)) ∙ restores d h

-- what is restored, row by row
pub restored : (d : SynthDef) → Restored d (canonical d)
restored d =
    let n = rows_few 24 d.nodes.count d.nodes.rows in
    let p = rows_few 8 d.params.count d.params.rows in
    record {
      nodes = rows_held blank_node 24 (map clean_node (node_rows d.nodes)) (omega (arith, length-map (node_rows d.nodes) clean_node));
      edges = rows_held no_edge 48 (edge_rows d.edges) (rows_few 48 d.edges.count d.edges.rows);
      params = rows_held blank_param 8 (map clean_param (param_rows d.params)) (omega (arith, length-map (param_rows d.params) clean_param));
      output = refl;
    }

-- a name of 1 to 16 bytes stands for the same byte string after it
pub same_string : (n : Name) → length n.bytes ≡ 16 → n.len ≤ 16 → text (clean_name n) ≡ text n
same_string n h l =
    let many : length (text n) ≡ n.len = length-take-le n.len n.bytes (omega arith) in
    ap (λ k. take k (held 16 0 (text n))) (sym many) ∙ take_held 0 16 (text n) (omega arith)

-- ---- what was accepted
pub record Accepted (s : List ℕ) (d : SynthDef) : Type 0 where
  pub heading : is_heading s ≡ true
  pub taken : size (rows (drop 6 s)) ≡ length (drop 6 s)
  pub many : length (nodes_of (rows (drop 6 s))) ≡ get_or s 4 0
  pub def : d ≡ def_of (get_or s 5 0) (rows (drop 6 s))
  pub fits : allowed d ≡ true

pub accepted_is : (s : List ℕ) (d : SynthDef) → read_book s ≡ gives d → Accepted s d
unfolding read_book read_rows
accepted_is s d h = go (is_heading s) refl (eqb (size (rows (drop 6 s))) (length (drop 6 s))) refl (eqb (length (nodes_of (rows (drop 6 s)))) (get_or s 4 0)) refl (allowed made) refl h
  where
    made : SynthDef
    made = def_of (get_or s 5 0) (rows (drop 6 s))

    go : (a : Bool) → is_heading s ≡ a → (b : Bool) → eqb (size (rows (drop 6 s))) (length (drop 6 s)) ≡ b → (c : Bool) → eqb (length (nodes_of (rows (drop 6 s)))) (get_or s 4 0) ≡ c
        → (e : Bool) → allowed made ≡ e
        → cond a (cond b (cond c (cond e (gives made) (limits made.nodes.count made.edges.count)) (malformed (6 + length (drop 6 s)))) (malformed (6 + size (rows (drop 6 s))))) (malformed 0) ≡ gives d → Accepted s d
    go true p true q true r true f k =
        let same : d ≡ made = cc in
        record {
          heading = p;
          taken = eqb-true _ _ q;
          many = eqb-true _ _ r;
          def = same;
          fits = ap allowed same ∙ f;
        }
    go true p true q true r false f k = let z : ◌≡◌ {A = ℕ} 0 1 = cc in absurd (omega arith)
    go true p true q false r e f k = let z : ◌≡◌ {A = ℕ} 0 1 = cc in absurd (omega arith)
    go true p false q c r e f k = let z : ◌≡◌ {A = ℕ} 0 1 = cc in absurd (omega arith)
    go false p b q c r e f k = let z : ◌≡◌ {A = ℕ} 0 1 = cc in absurd (omega arith)

-- the tables of a definition that was accepted hold its rows and nothing past them
pub accepted : (s : List ℕ) (d : SynthDef) → read_book s ≡ gives d → (allowed d ≡ true) × (canonical d ≡ d)
accepted s d h =
    let a = accepted_is s d h in
    let rs = rows (drop 6 s) in
    let fits : allowed (def_of (get_or s 5 0) rs) ≡ true = ap allowed (sym a.def) ∙ a.fits in
    let few = counts_there (length (nodes_of rs)) (length (edges_of rs)) (length (params_of rs)) (and_left (counts_allowed (length (nodes_of rs)) (length (edges_of rs)) (length (params_of rs))) _ fits) in
    let ns : map clean_node (nodes_of rs) ≡ nodes_of rs = sym (gather_map as_node clean_row clean_node node_cleaned rs) ∙ ap nodes_of (rows_clean (drop 6 s)) in
    let ps : map clean_param (params_of rs) ≡ params_of rs = sym (gather_map as_param clean_row clean_param param_cleaned rs) ∙ ap params_of (rows_clean (drop 6 s)) in
    let whole : canonical (def_of (get_or s 5 0) rs) ≡ def_of (get_or s 5 0) rs =
    rw (rows_held blank_node 24 (nodes_of rs) few.0, rows_held no_edge 48 (edges_of rs) few.1, rows_held blank_param 8 (params_of rs) few.2, ns, ps) in
    (a.fits, ap canonical a.def ∙ whole ∙ sym a.def)

-- "two accepted books rewrite to equal bytes exactly when their definitions are equal"
pub rewrites : (a b : List ℕ) (d e : SynthDef) → read_book a ≡ gives d → read_book b ≡ gives e → (book_of d ≡ book_of e) ↔ (d ≡ e)
rewrites a b d e p q = (back, ap book_of)
  where
    back : book_of d ≡ book_of e → d ≡ e
    back h =
        let x = accepted a d p in
        let y = accepted b e q in
        let same : gives (canonical d) ≡ gives (canonical e) = sym (restores d x.0) ∙ ap read_book h ∙ restores e y.0 in
        let one : canonical d ≡ canonical e = cc in
        sym x.1 ∙ one ∙ y.1

-- an accepted book that is rewritten is read as the same definition
pub rewritten : (s : List ℕ) (d : SynthDef) → read_book s ≡ gives d → read_book (book_of d) ≡ gives d
rewritten s d h = let a = accepted s d h in restores d a.0 ∙ ap gives a.1

-- ---- 18
-- a book that is well formed is not malformed
wellformed_read : (s : List ℕ) → WellFormed s → read_number (read_book s) ≡ 18 → ⊥
unfolding read_book read_rows
wellformed_read s w e =
    let h = record_goes_on 1 6 w.heading (omega arith) (joined w.others) w.first in
    let head : is_heading s ≡ true = ap is_heading w.whole ∙ h in
    let body : drop 6 s ≡ joined w.others = ap (drop 6) w.whole ∙ drop_at w.heading (joined w.others) 6 w.first.long in
    let all = read_all w.others w.rows in
    let said : get_or s 4 0 ≡ get_or w.heading 4 0 = ap (λ l. get_or l 4 0) w.whole ∙ get_or-append w.heading (joined w.others) 0 4 (omega (arith, w.first.long)) in
    let taken : size (rows (drop 6 s)) ≡ length (drop 6 s) = ap (λ l. size (rows l)) body ∙ all.size ∙ sym (ap length body) in
    let many : length (nodes_of (rows (drop 6 s))) ≡ get_or s 4 0 = ap (λ l. length (nodes_of (rows l))) body ∙ all.nodes ∙ w.nodes ∙ sym said in
    let made = def_of (get_or s 5 0) (rows (drop 6 s)) in
    let read : read_book s ≡ within made = rw (head, eq-eqb _ _ taken, eq-eqb _ _ many) in
    go made (allowed made) (ap read_number (sym read) ∙ e)
  where
    go : (d : SynthDef) (b : Bool) → read_number (cond b (gives d) (limits d.nodes.count d.edges.count)) ≡ 18 → ⊥
    go d true k = omega arith
    go d false k = omega arith

-- a book that is not malformed is well formed
pub read_wellformed : (s : List ℕ) → (read_number (read_book s) ≡ 18 → ⊥) → WellFormed s
unfolding read_book read_rows
read_wellformed s h = go (is_heading s) refl (eqb (size (rows (drop 6 s))) (length (drop 6 s))) refl (eqb (length (nodes_of (rows (drop 6 s)))) (get_or s 4 0)) refl h
  where
    made : Read
    made = within (def_of (get_or s 5 0) (rows (drop 6 s)))

    go : (a : Bool) → is_heading s ≡ a → (b : Bool) → eqb (size (rows (drop 6 s))) (length (drop 6 s)) ≡ b → (c : Bool) → eqb (length (nodes_of (rows (drop 6 s)))) (get_or s 4 0) ≡ c
        → (read_number (cond a (cond b (cond c made (malformed (6 + length (drop 6 s)))) (malformed (6 + size (rows (drop 6 s))))) (malformed 0)) ≡ 18 → ⊥) → WellFormed s
    go true p true q true r k =
        let runs = cut_all (rows (drop 6 s)) (drop 6 s) refl (eqb-true _ _ q) in
        record {
          heading = take 6 s;
          others = cut (rows (drop 6 s)) (drop 6 s);
          whole = sym (take-append-drop 6 s) ∙ ap (λ l. take 6 s ++ l) (sym runs.whole);
          first = record_cut 1 6 s (omega arith) p;
          rows = runs.each;
          nodes = runs.nodes ∙ eqb-true _ _ r ∙ sym (get_or-take 6 s 4 0 (omega arith));
        }
    go true p true q false r k = absurd (k refl)
    go true p false q c r k = absurd (k refl)
    go false p b q c r k = absurd (k refl)

-- 18 exactly where the book is not well formed
pub malformed_exactly : (s : List ℕ) → (read_number (read_book s) ≡ 18) ↔ (WellFormed s → ⊥)
malformed_exactly s = (λ e w. wellformed_read s w e, from (read_book s) refl)
  where
    from : (r : Read) → read_book s ≡ r → (WellFormed s → ⊥) → read_number (read_book s) ≡ 18
    from (malformed at) e h = ap read_number e
    from (gives d) e h = absurd (h (read_wellformed s (λ k. omega (arith, ap read_number (sym e) ∙ k))))
    from (limits n m) e h = absurd (h (read_wellformed s (λ k. omega (arith, ap read_number (sym e) ∙ k))))
