-- The walk that gathers a book's rows: how it begins, a turn for each sort of row, and where it ends.
use Prim.Native.Nat.{ℕ, zero, suc, ◌+◌, ◌-◌, ◌≤◌}
use native.Mathlib.Omega.{arith}
use mathlib.Core.Path.{◌≡◌, refl, sym, ap, ◌∙◌}
use mathlib.Core.List.{List, [], ◌∷◌, ◌++◌, append-nil}
use Rattle.std.specs.Prelude.{Option, None, Some}
use lib.ListN.{length, drop, length-drop, drop_of_length-le}
use lib.Seq.{append_snoc, drop-drop}
use Rattle.std.proofs.lemmas.List.{length_push}
use Rattle.synthdef.specs.Tables.{no_edge}
use Rattle.synthdef.specs.declared.def.DefNode.{DefNode}
use Rattle.synthdef.specs.Tables.{DefNodes}
use Rattle.synthdef.specs.declared.def.DefEdge.{DefEdge}
use Rattle.synthdef.specs.Tables.{DefEdges}
use Rattle.synthdef.specs.declared.def.Param.{Param}
use Rattle.synthdef.specs.Tables.{Params}
use Rattle.def_book.specs.Bytes.{Row, node, edge, param, long}
use Rattle.def_book.specs.Rows.{row_at, follow, rows_after, rows, size, more, gather, as_node, as_edge, as_param, nodes_of, edges_of, params_of}
use Rattle.def_book.specs.Read.{blank_node, blank_param, node_table, edge_table, param_table}
use Rattle.def_book.specs.Body.{more_nodes, more_edges, more_params, body_of}
use Rattle.def_book.specs.declared.body.Body.{Body}
use Rattle.def_book.proofs.Held.{held_more}
use Rattle.def_book.proofs.Walk.{row_fits, rows_nil, rows_none, rows_some}
use Rattle.def_book.proofs.Restores.{gather_append}

row_some : (r : Row) → 1 ≤ long r
row_some (node n) = omega arith
row_some (edge e) = omega arith
row_some (param p) = omega arith

-- rows take no more bytes than there are
size_after : (s : List ℕ) (k : ℕ) → size (rows_after s k) ≤ length s - k
unfolding size rows_after
size_after [] k = omega arith
size_after (b ∷ s) (suc k) = omega (arith, size_after s k)
size_after (b ∷ s) zero = go (row_at (b ∷ s)) refl (size_after s)
  where
    go : (o : Option Row) → row_at (b ∷ s) ≡ o → ((k : ℕ) → size (rows_after s k) ≤ length s - k) → size (follow o (rows_after s)) ≤ suc (length s) - 0
    go None e ih = omega arith
    go (Some r) e ih = let some_byte = row_some r in omega (arith, row_fits (b ∷ s) r e, ih (long r - 1))

pub size_fits : (s : List ℕ) → size (rows s) ≤ length s
size_fits s = omega (arith, size_after s 0)

-- ---- one row more
size_snoc : (rs : List Row) (r : Row) → size (rs ++ (r ∷ [])) ≡ size rs + long r
unfolding size
size_snoc [] r = omega arith
size_snoc (x ∷ rs) r = omega (arith, size_snoc rs r)

module _ {A : Type 0} (f : Row → Option A) where
  gather_snoc : (rs : List Row) (r : Row) → gather f (rs ++ (r ∷ [])) ≡ gather f rs ++ more (f r) []
  unfolding gather
  gather_snoc rs r = gather_append f rs (r ∷ [])

  -- a row of another sort
  pub gather_other : (rs : List Row) (r : Row) → f r ≡ None → gather f (rs ++ (r ∷ [])) ≡ gather f rs
  gather_other rs r e = gather_snoc rs r ∙ ap (λ o. gather f rs ++ more o []) e ∙ append-nil (gather f rs)

  pub gather_one : (rs : List Row) (r : Row) (x : A) → f r ≡ Some x → gather f (rs ++ (r ∷ [])) ≡ gather f rs ++ (x ∷ [])
  gather_one rs r x e = gather_snoc rs r ∙ ap (λ o. gather f rs ++ more o []) e

  -- there are no more rows than bytes
  pub gather_few : (rs : List Row) → length (gather f rs) ≤ size rs
  unfolding gather size
  gather_few [] = omega arith
  gather_few (r ∷ rs) = go r (f r) (gather_few rs)
    where
      go : (r : Row) (o : Option A) → length (gather f rs) ≤ size rs → length (more o (gather f rs)) ≤ long r + size rs
      go (node n) None h = omega arith
      go (node n) (Some x) h = omega arith
      go (edge e) None h = omega arith
      go (edge e) (Some x) h = omega arith
      go (param p) None h = omega arith
      go (param p) (Some x) h = omega arith

pub nodes_more : (l : List DefNode) (n : DefNode) → more_nodes (node_table l) n ≡ node_table (l ++ (n ∷ []))
nodes_more l n = rw (held_more blank_node 24 l n, sym (length_push l n))

pub edges_more : (l : List DefEdge) (e : DefEdge) → more_edges (edge_table l) e ≡ edge_table (l ++ (e ∷ []))
edges_more l e = rw (held_more no_edge 48 l e, sym (length_push l e))

pub params_more : (l : List Param) (p : Param) → more_params (param_table l) p ≡ param_table (l ++ (p ∷ []))
params_more l p = rw (held_more blank_param 8 l p, sym (length_push l p))

-- ---- the walk: the rows that were passed fill the tables, and with those that are left they are all
pub record Walked (s : List ℕ) (ns : DefNodes) (es : DefEdges) (ps : Params) (at : ℕ) : Type 0 where
  pub passed : List Row
  pub all : rows s ≡ passed ++ rows (drop at s)
  pub nodes : ns ≡ node_table (nodes_of passed)
  pub edges : es ≡ edge_table (edges_of passed)
  pub params : ps ≡ param_table (params_of passed)
  pub end : at ≡ size passed
  pub inside : at ≤ length s

pub begun : (s : List ℕ) (ns : DefNodes) (es : DefEdges) (ps : Params) → ns ≡ node_table [] → es ≡ edge_table [] → ps ≡ param_table [] → Walked s ns es ps 0
unfolding gather size
begun s ns es ps n e p = record { passed = []; all = refl; nodes = n; edges = e; params = p; end = refl; inside = omega arith }

module _ {s : List ℕ} {ns : DefNodes} {es : DefEdges} {ps : Params} {at : ℕ} (w : Walked s ns es ps at) where
  -- counts stay below every length
  pub few_nodes : ns.count ≤ at
  few_nodes = rw w.nodes (omega (arith, gather_few as_node w.passed, w.end))

  pub few_edges : es.count ≤ at
  few_edges = rw w.edges (omega (arith, gather_few as_edge w.passed, w.end))

  pub few_params : ps.count ≤ at
  few_params = rw w.params (omega (arith, gather_few as_param w.passed, w.end))

  module _ (r : Row) (here : row_at (drop at s) ≡ Some r) where
    pub row_inside : at + long r ≤ length s
    row_inside = omega (arith, row_fits (drop at s) r here, length-drop at s, w.inside)

    next : rows s ≡ (w.passed ++ (r ∷ [])) ++ rows (drop (at + long r) s)
    next =
        w.all
        ∙ ap (λ l. w.passed ++ l) (rows_some (drop at s) r here ∙ ap (λ l. r ∷ rows l) (drop-drop (long r) at s))
        ∙ sym (append_snoc w.passed r (rows (drop (at + long r) s)))

    ended : at + long r ≡ size (w.passed ++ (r ∷ []))
    ended = omega (arith, size_snoc w.passed r, w.end)

  pub node_turn : (n : DefNode) (t : DefNodes) → row_at (drop at s) ≡ Some (node n) → t ≡ more_nodes ns n → Walked s t es ps (at + 27)
  node_turn n t here e =
      record {
        passed = w.passed ++ (node n ∷ []);
        all = next (node n) here;
        nodes = e ∙ ap (λ x. more_nodes x n) w.nodes ∙ nodes_more (nodes_of w.passed) n ∙ ap node_table (sym (gather_one as_node w.passed (node n) n refl));
        edges = w.edges ∙ ap edge_table (sym (gather_other as_edge w.passed (node n) refl));
        params = w.params ∙ ap param_table (sym (gather_other as_param w.passed (node n) refl));
        end = ended (node n) here;
        inside = row_inside (node n) here;
      }

  pub edge_turn : (x : DefEdge) (t : DefEdges) → row_at (drop at s) ≡ Some (edge x) → t ≡ more_edges es x → Walked s ns t ps (at + 7)
  edge_turn x t here e =
      record {
        passed = w.passed ++ (edge x ∷ []);
        all = next (edge x) here;
        nodes = w.nodes ∙ ap node_table (sym (gather_other as_node w.passed (edge x) refl));
        edges = e ∙ ap (λ z. more_edges z x) w.edges ∙ edges_more (edges_of w.passed) x ∙ ap edge_table (sym (gather_one as_edge w.passed (edge x) x refl));
        params = w.params ∙ ap param_table (sym (gather_other as_param w.passed (edge x) refl));
        end = ended (edge x) here;
        inside = row_inside (edge x) here;
      }

  pub param_turn : (p : Param) (t : Params) → row_at (drop at s) ≡ Some (param p) → t ≡ more_params ps p → Walked s ns es t (at + 22)
  param_turn p t here e =
      record {
        passed = w.passed ++ (param p ∷ []);
        all = next (param p) here;
        nodes = w.nodes ∙ ap node_table (sym (gather_other as_node w.passed (param p) refl));
        edges = w.edges ∙ ap edge_table (sym (gather_other as_edge w.passed (param p) refl));
        params = e ∙ ap (λ z. more_params z p) w.params ∙ params_more (params_of w.passed) p ∙ ap param_table (sym (gather_one as_param w.passed (param p) p refl));
        end = ended (param p) here;
        inside = row_inside (param p) here;
      }

  abbrev gathered : Body
  gathered = record { nodes = ns; edges = es; params = ps; end = at }

  over : rows (drop at s) ≡ [] → gathered ≡ body_of (rows s)
  over h =
      let whole : w.passed ≡ rows s = sym (w.all ∙ ap (λ l. w.passed ++ l) h ∙ append-nil w.passed) in
      let same : gathered ≡ body_of w.passed = rw (w.nodes, w.edges, w.params, w.end) in
      same ∙ ap body_of whole

  pub no_row_left : row_at (drop at s) ≡ None → gathered ≡ body_of (rows s)
  no_row_left e = over (rows_none (drop at s) e)

  pub no_byte_left : length s ≤ at → gathered ≡ body_of (rows s)
  no_byte_left h = over (ap rows (drop_of_length-le s h) ∙ rows_nil)
