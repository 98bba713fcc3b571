-- What a book keeps of a definition is within the limits where the definition is, and what was read from a book is kept whole.
use Prim.Native.Nat.{ℕ, ◌≤◌, ◌<◌}
use native.Mathlib.Omega.{arith}
use mathlib.Core.Path.{◌≡◌, refl, ap, ◌∙◌}
use mathlib.Core.List.{List, [], ◌∷◌, map}
use mathlib.Core.Bool.{Bool, true, ◌&&◌}
use lib.Dec.{leb, ltb}
use lib.ListN.{length, length-map, length-take}
use borrow.Author.Tests.{le-leb, leb-true, ltb-true}
use Rattle.std.proofs.lemmas.Bool.{and_from}
use Rattle.synthdef.proofs.Rows.{every_same}
use Rattle.lists.proofs.Member.{and_left, and_right}
use Rattle.lists.specs.Table.{rows_of}
use Rattle.synthdef.specs.Rows.{every}
use Rattle.synthdef.specs.Tables.{node_rows, edge_rows, param_rows, no_edge}
use Rattle.synthdef.specs.Limits.{node_allowed, edge_allowed, param_allowed, counts_allowed, ordered, allowed}
use Rattle.synthdef.specs.declared.def.DefNode.{DefNode}
use Rattle.synthdef.specs.declared.def.DefEdge.{DefEdge}
use Rattle.synthdef.specs.declared.def.Param.{Param}
use Rattle.synthdef.specs.declared.def.SynthDef.{SynthDef}
use Rattle.def_book.specs.Read.{blank_node, blank_param, tables, clean_node, clean_param, canonical}
use Rattle.def_book.proofs.Held.{rows_held}

every_map : {A B : Type 0} (q : B → Bool) (r : A → Bool) (f : A → B) → ((x : A) → q (f x) ≡ r x) → (l : List A) → every q (map f l) ≡ every r l
every_map q r f e [] = refl
every_map q r f e (x ∷ l) = rw (e x, every_map q r f e l)

pub rows_few : {A : Type 0} (room count : ℕ) (l : List A) → length (rows_of room count l) ≤ room
rows_few room count l = simp length-take (omega arith)

ports_clean : (ns : List DefNode) → map (λ n. n.ports) (map clean_node ns) ≡ map (λ n. n.ports) ns
ports_clean [] = refl
ports_clean (n ∷ ns) = ap (λ l. n.ports ∷ l) (ports_clean ns)

-- within the limits, but for the counts
abbrev pub rows_allowed : List DefNode → List DefEdge → List Param → ℕ → Bool
rows_allowed ns es ps output =
    every node_allowed ns && (every (edge_allowed ns) es && (every (param_allowed (length ns)) ps && (ltb output (length ns) && ordered (length ns) es)))

module _ (ns : List DefNode) (es : List DefEdge) (ps : List Param) (output : ℕ) where
  rows_clean : rows_allowed (map clean_node ns) es (map clean_param ps) output ≡ rows_allowed ns es ps output
  rows_clean =
      let many : length (map clean_node ns) ≡ length ns = length-map ns clean_node in
      let a = every_map node_allowed node_allowed clean_node (λ n. refl) ns in
      let b = every_same (edge_allowed (map clean_node ns)) (edge_allowed ns) es (λ e. rw (many, ports_clean ns)) in
      let c = every_map (param_allowed (length (map clean_node ns))) (param_allowed (length ns)) clean_param (λ p. rw many) ps in
      let d : (ltb output (length (map clean_node ns)) && ordered (length (map clean_node ns)) es) ≡ (ltb output (length ns) && ordered (length ns) es) =
      ap (λ k. ltb output k && ordered k es) many in
      cc (a, b, c, d)

  pub nodes_there : rows_allowed ns es ps output ≡ true → every node_allowed ns ≡ true
  nodes_there h = and_left (every node_allowed ns) _ h

  pub params_there : rows_allowed ns es ps output ≡ true → every (param_allowed (length ns)) ps ≡ true
  params_there h =
      let h1 = and_right (every node_allowed ns) _ h in
      let h2 = and_right (every (edge_allowed ns) es) _ h1 in
      and_left (every (param_allowed (length ns)) ps) _ h2

  output_there : rows_allowed ns es ps output ≡ true → output < length ns
  output_there h =
      let h1 = and_right (every node_allowed ns) _ h in
      let h2 = and_right (every (edge_allowed ns) es) _ h1 in
      let h3 = and_right (every (param_allowed (length ns)) ps) _ h2 in
      ltb-true output (length ns) (and_left (ltb output (length ns)) _ h3)

  -- a definition of these rows, where there is room for them
  pub tables_allowed : length ns ≤ 24 → length es ≤ 48 → length ps ≤ 8 → rows_allowed ns es ps output ≡ true → allowed (tables ns es ps output) ≡ true
  tables_allowed n e p h =
      let some_node : 1 ≤ length ns = omega (arith, output_there h) in
      let counts : counts_allowed (length ns) (length es) (length ps) ≡ true =
      and_from _ _ (le-leb 1 (length ns) some_node) (and_from _ _ (le-leb _ 24 n) (and_from _ _ (le-leb _ 48 e) (le-leb _ 8 p))) in
      rw (rows_held blank_node 24 ns n, rows_held no_edge 48 es e, rows_held blank_param 8 ps p) (and_from _ _ counts h)

pub counts_there : (n e p : ℕ) → counts_allowed n e p ≡ true → (n ≤ 24) × (e ≤ 48) × (p ≤ 8)
counts_there n e p h =
    let h1 = and_right (leb 1 n) (leb n 24 && (leb e 48 && leb p 8)) h in
    let h2 = and_right (leb n 24) (leb e 48 && leb p 8) h1 in
    (leb-true n 24 (and_left (leb n 24) _ h1), leb-true e 48 (and_left (leb e 48) (leb p 8) h2), leb-true p 8 (and_right (leb e 48) (leb p 8) h2))

pub rows_allowed_lem : (d : SynthDef) → allowed d ≡ true → rows_allowed (node_rows d.nodes) (edge_rows d.edges) (param_rows d.params) d.output ≡ true
rows_allowed_lem d h = and_right (counts_allowed d.nodes.count d.edges.count d.params.count) _ h

pub canonical_allowed : (d : SynthDef) → allowed d ≡ true → allowed (canonical d) ≡ true
canonical_allowed d h =
    let ns = node_rows d.nodes in
    let es = edge_rows d.edges in
    let ps = param_rows d.params in
    let n : length (map clean_node ns) ≤ 24 = omega (arith, length-map ns clean_node, rows_few 24 d.nodes.count d.nodes.rows) in
    let p : length (map clean_param ps) ≤ 8 = omega (arith, length-map ps clean_param, rows_few 8 d.params.count d.params.rows) in
    tables_allowed (map clean_node ns) es (map clean_param ps) d.output n (rows_few 48 d.edges.count d.edges.rows) p (rows_clean ns es ps d.output ∙ rows_allowed_lem d h)
