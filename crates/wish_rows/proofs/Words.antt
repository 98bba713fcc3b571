-- The words of a wish, stored part by part, and its fields read from the words of its row.
use Prim.Native.Nat.{ℕ, ◌+◌, ◌*◌, ◌%◌, ◌<◌, ◌≤◌}
use native.Mathlib.Omega.{arith}
use native.Mathlib.Nat.{zero-add, mul-one}
use mathlib.Core.Path.{◌≡◌, refl, sym, ap, ◌∙◌}
use mathlib.Core.Logic.{inl}
use mathlib.Core.List.{List, []}
use lib.ListN.{length, take, get_or}
use lib.Seq.{ext_get_or, sets, length-sets, length-take-le, get_or-take}
use Rattle.words.specs.Fields.{is_set, float_from, long_from, long_at}
use Rattle.words.specs.Rows.{row_at}
use Rattle.words.proofs.Rows.{row_is}
use Rattle.voice_rows.specs.Rows.{each, node}
use Rattle.voice_rows.specs.Filled.{Filled}
use Rattle.voice_rows.proofs.Filling.{each_same, sets_in}
use Rattle.store.specs.declared.wish.Wish.{Wish}
use Rattle.wish_rows.specs.Rows.{def_node_at, def_edge_at, param_at, nodes_in, edges_in, params_in, headed, wish_of, wishes_in, Heads, Stands}
use Rattle.wish_rows.specs.Layouts.{node_local, edge_local}

-- the same words in a part give the same rows
nodes_kept : (c e : List ℕ) → ((j : ℕ) → 11 ≤ j → j < 155 → get_or c j 0 ≡ get_or e j 0) → nodes_in c ≡ nodes_in e
nodes_kept c e h =
    each_same (λ k. def_node_at c (11 + k * 6)) (λ k. def_node_at e (11 + k * 6)) 24
    (λ k b. node_local c e (11 + k * 6) (11 + k * 6) (λ j l. h (11 + k * 6 + j) (omega arith) (omega arith)))

edges_kept : (c e : List ℕ) → ((j : ℕ) → 155 ≤ j → j < 203 → get_or c j 0 ≡ get_or e j 0) → edges_in c ≡ edges_in e
edges_kept c e h =
    each_same (λ k. def_edge_at c (155 + k)) (λ k. def_edge_at e (155 + k)) 48
    (λ k b. edge_local c e (155 + k) (155 + k) (λ j l. h (155 + k + j) (omega arith) (omega arith)))

-- an edge has one word
pub one_each : (c : List ℕ) → edges_in c ≡ each (λ k. def_edge_at c (155 + k * 1)) 0 48
one_each c =
    each_same (λ k. def_edge_at c (155 + k)) (λ k. def_edge_at c (155 + k * 1)) 48 (λ k b. ap (λ n. def_edge_at c (155 + n)) (sym (mul-one k)))

-- head, nodes, edges and parameters, one after the other
pub wish_filled : (w : Wish) (old one two three four head : List ℕ) → length old ≡ 243 → Heads w head → one ≡ sets old 0 head
    → Filled 11 6 24 def_node_at one two w.def.nodes.rows → Filled 155 1 48 def_edge_at two three w.def.edges.rows
    → Filled 203 5 8 param_at three four w.def.params.rows → Stands w four
unfolding wish_of
wish_filled w old one two three four head h hd put ns es ps =
    record {
      long = long;
      back =
          ap (λ l. headed l (nodes_in four) (edges_in four) (params_in four)) front
          ∙ ap (λ l. headed head l (edges_in four) (params_in four)) (nodes_kept four two (λ j a b. ps.out j (inl (omega arith)) ∙ es.out j (inl (omega arith))) ∙ ns.is)
          ∙ ap (λ l. headed head w.def.nodes.rows l (params_in four)) (edges_kept four three (λ j a b. ps.out j (inl (omega arith))) ∙ one_each three ∙ es.is)
          ∙ ap (headed head w.def.nodes.rows w.def.edges.rows) ps.is
          ∙ hd.back;
    }
  where
    long : length four ≡ 243
    long = ps.long ∙ es.long ∙ ns.long ∙ ap length put ∙ length-sets old 0 head ∙ h

    word : (j : ℕ) → j < 11 → get_or four j 0 ≡ get_or head j 0
    word j b =
        let fits : 0 + length head ≤ length old = omega (arith, hd.long) in
        let inside : j < length head = omega (arith, hd.long) in
        ps.out j (inl (omega arith)) ∙ es.out j (inl (omega arith)) ∙ ns.out j (inl b) ∙ ap (λ l. get_or l j 0) put
        ∙ ap (λ k. get_or (sets old 0 head) k 0) (sym (zero-add j)) ∙ sets_in head old 0 j fits inside

    front : take 11 four ≡ head
    front =
        let size : length (take 11 four) ≡ 11 = length-take-le 11 four (omega (arith, long)) in
        ext_get_or 0 (take 11 four) head (size ∙ sym hd.long)
        (λ j b. let below : j < 11 = omega (arith, size) in get_or-take 11 four j 0 below ∙ word j below)

-- ---- the fields of a wish, read from the words of its row
pub record WishRow (r : List ℕ) (w : Wish) : Type 0 where
  pub managed : is_set (get_or r 0 0) ≡ w.managed
  pub bus : node (get_or r 1 0) ≡ w.bus
  pub pan : float_from (get_or r 2 0) ≡ w.pan
  pub rank : get_or r 3 0 ≡ w.rank
  pub output : get_or r 4 0 % 256 ≡ w.def.output
  pub nodes : long_at r 5 ≡ w.def.nodes.count
  pub edges : long_at r 7 ≡ w.def.edges.count
  pub params : long_at r 9 ≡ w.def.params.count
  pub node_rows : nodes_in r ≡ w.def.nodes.rows
  pub edge_rows : edges_in r ≡ w.def.edges.rows
  pub param_rows : params_in r ≡ w.def.params.rows

module _ (r : List ℕ) where
  word : (k : ℕ) → k < 11 → get_or r k 0 ≡ get_or (take 11 r) k 0
  word k h = sym (get_or-take 11 r k 0 h)

  long : (k : ℕ) → k + 1 < 11 → long_at r k ≡ long_at (take 11 r) k
  long k h =
      let below : k < 11 = omega arith in
      ap (λ x. long_from x (get_or r (k + 1) 0)) (word k below) ∙ ap (long_from (get_or (take 11 r) k 0)) (word (k + 1) h)

  row : WishRow r (wish_of r)
  unfolding wish_of headed
  row =
      record {
        managed = ap is_set (word 0 (omega arith));
        bus = ap node (word 1 (omega arith));
        pan = ap float_from (word 2 (omega arith));
        rank = word 3 (omega arith);
        output = ap (λ x. x % 256) (word 4 (omega arith));
        nodes = long 5 (omega arith);
        edges = long 7 (omega arith);
        params = long 9 (omega arith);
        node_rows = refl;
        edge_rows = refl;
        param_rows = refl;
      }

-- the wish in row i
pub wish_row : (c : List ℕ) (i : ℕ) → WishRow (row_at 243 i c) (get_or (wishes_in c) i (wish_of []))
wish_row c i = rw (row_is 243 wish_of c i) (row (row_at 243 i c))
