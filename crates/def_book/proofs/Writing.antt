-- The book of a definition, part by part, and what the writer answers (SPEC 16).
use Prim.Native.Nat.{ℕ, ◌*◌, ◌≤◌, ◌<◌, min}
use native.Mathlib.Nat.{min-eq_left}
use native.Mathlib.Omega.{arith}
use mathlib.Core.Path.{◌≡◌, sym, ap, ◌∙◌}
use mathlib.Core.List.{List, ◌++◌, map, append_assoc, map-map}
use mathlib.Core.Bool.{true, false, cond}
use lib.ListN.{length, length-append, length-take, length-map}
use lib.Dec.{leb}
use borrow.Author.Tests.{le-leb, lt-leb}
use Rattle.std.proofs.lemmas.List.{map-append}
use Rattle.lists.specs.Written.{written}
use Rattle.synthdef.specs.Limits.{allowed}
use Rattle.synthdef.specs.Tables.{node_rows, edge_rows, param_rows}
use Rattle.synthdef.specs.declared.def.DefNode.{DefNode}
use Rattle.synthdef.specs.declared.def.DefEdge.{DefEdge}
use Rattle.synthdef.specs.declared.def.Param.{Param}
use Rattle.synthdef.specs.declared.def.SynthDef.{SynthDef}
use Rattle.def_book.specs.Bytes.{node, edge, param, heading_bytes, node_bytes, edge_bytes, param_bytes, row_bytes, joined, rows_in, book_of}
use Rattle.def_book.specs.Write.{length_of, refused, book_length, write_answer, write_book}
use Rattle.def_book.specs.Put.{Put}
use Rattle.def_book.proofs.Restores.{row_long}
use Rattle.def_book.proofs.Puts.{joined_append, take_long}

-- the records of the three sorts
pub record Long (d : SynthDef) : Type 0 where
  pub nodes : length d.nodes.rows ≡ 24
  pub edges : length d.edges.rows ≡ 48
  pub params : length d.params.rows ≡ 8

-- as a parameter's lengths are given: of its rows, told one by one
pub long_told : {A B C : Type 0} (f : DefNode → A) (g : DefEdge → B) (h : Param → C) (d : SynthDef) → length (map f d.nodes.rows) ≡ 24 → length (map g d.edges.rows) ≡ 48 → length (map h d.params.rows) ≡ 8 → Long d
long_told f g h d a b c = record { nodes = simp length-map at a; edges = simp length-map at b; params = simp length-map at c }

module _ (d : SynthDef) where
  abbrev pub node_part : List ℕ
  node_part = joined (map node_bytes (node_rows d.nodes))

  abbrev pub edge_part : List ℕ
  edge_part = joined (map edge_bytes (edge_rows d.edges))

  abbrev pub param_part : List ℕ
  param_part = joined (map param_bytes (param_rows d.params))

  abbrev heading : List ℕ
  heading = heading_bytes (length (node_rows d.nodes)) d.output

  parts : joined (map row_bytes (rows_in d)) ≡ node_part ++ (edge_part ++ param_part)
  parts =
      let ns = node_rows d.nodes in
      let es = edge_rows d.edges in
      let ps = param_rows d.params in
      ap joined
      (map-append row_bytes (map node ns) (map edge es ++ map param ps)
      ∙ ap (λ l. map row_bytes (map node ns) ++ l) (map-append row_bytes (map edge es) (map param ps))
      ∙ cc (map-map row_bytes node ns, map-map row_bytes edge es, map-map row_bytes param ps))
      ∙ joined_append (map node_bytes ns) (map edge_bytes es ++ map param_bytes ps)
      ∙ ap (λ l. node_part ++ l) (joined_append (map edge_bytes es) (map param_bytes ps))

  -- the parts put one after the other
  pub book_parts : ((heading ++ node_part) ++ edge_part) ++ param_part ≡ book_of d
  book_parts =
      append_assoc (heading ++ node_part) edge_part param_part
      ∙ append_assoc heading node_part (edge_part ++ param_part)
      ∙ ap (λ l. heading ++ l) (sym parts)

  module _ (w : Long d) where
    pub node_count : min d.nodes.count 24 ≡ length (node_rows d.nodes)
    node_count = sym (length-take (min d.nodes.count 24) d.nodes.rows ∙ min-eq_left (omega (arith, w.nodes)))

    pub edge_count : min d.edges.count 48 ≡ length (edge_rows d.edges)
    edge_count = sym (length-take (min d.edges.count 48) d.edges.rows ∙ min-eq_left (omega (arith, w.edges)))

    pub param_count : min d.params.count 8 ≡ length (param_rows d.params)
    param_count = sym (length-take (min d.params.count 8) d.params.rows ∙ min-eq_left (omega (arith, w.params)))

    pub nodes_long : length node_part ≡ 27 * min d.nodes.count 24
    nodes_long = take_long node_bytes 27 (λ n. row_long (node n)) d.nodes.rows (min d.nodes.count 24) (omega (arith, w.nodes))

    pub edges_long : length edge_part ≡ 7 * min d.edges.count 48
    edges_long = take_long edge_bytes 7 (λ e. row_long (edge e)) d.edges.rows (min d.edges.count 48) (omega (arith, w.edges))

    pub params_long : length param_part ≡ 22 * min d.params.count 8
    params_long = take_long param_bytes 22 (λ p. row_long (param p)) d.params.rows (min d.params.count 8) (omega (arith, w.params))

    pub book_long : book_length d.nodes.count d.edges.count d.params.count ≡ length (book_of d)
    book_long = omega (arith, ap length parts, length-append node_part (edge_part ++ param_part), length-append edge_part param_part, nodes_long, edges_long, params_long)

-- ---- the writer's tests
module _ (d : SynthDef) (out : List ℕ) where
  pub beyond : allowed d ≡ false → (refused 9 ≡ write_answer d out) × (out ≡ write_book d out)
  unfolding write_answer write_book
  beyond h = (sym (ap (λ b. cond b (cond (leb (length (book_of d)) (length out)) (length_of (length (book_of d))) (refused 19)) (refused 9)) h), sym (ap (λ b. cond b (cond (leb (length (book_of d)) (length out)) (written (book_of d) out) out) out) h))

  module _ (h : allowed d ≡ true) where
    pub too_short : length out < length (book_of d) → (refused 19 ≡ write_answer d out) × (out ≡ write_book d out)
    unfolding write_answer write_book
    too_short l = (
      sym (ap (λ b. cond b (cond (leb (length (book_of d)) (length out)) (length_of (length (book_of d))) (refused 19)) (refused 9)) h ∙ ap (λ b. cond b (length_of (length (book_of d))) (refused 19)) (lt-leb (length (book_of d)) (length out) l)),
      sym (ap (λ b. cond b (cond (leb (length (book_of d)) (length out)) (written (book_of d) out) out) out) h ∙ ap (λ b. cond b (written (book_of d) out) out) (lt-leb (length (book_of d)) (length out) l)),
    )

    pub put_whole : (after : List ℕ) (r : ℕ) → length (book_of d) ≤ length out → Put (book_of d) out after r → (length_of r ≡ write_answer d out) × (after ≡ write_book d out)
    unfolding write_answer write_book
    put_whole after r l p = (
      ap length_of p.long
          ∙ sym (ap (λ b. cond b (cond (leb (length (book_of d)) (length out)) (length_of (length (book_of d))) (refused 19)) (refused 9)) h ∙ ap (λ b. cond b (length_of (length (book_of d))) (refused 19)) (le-leb (length (book_of d)) (length out) l)),
      p.placed
          ∙ sym (ap (λ b. cond b (cond (leb (length (book_of d)) (length out)) (written (book_of d) out) out) out) h ∙ ap (λ b. cond b (written (book_of d) out) out) (le-leb (length (book_of d)) (length out) l)),
    )
