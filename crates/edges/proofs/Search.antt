-- The laws of the port search (SPEC 9.6) and of the table of sources (SPEC 14.1).
use Prim.Native.Nat.{ℕ, zero, suc, ◌+◌, ◌-◌, ◌≤◌, ◌<◌}
use native.Mathlib.Omega.{arith}
use native.Mathlib.Numerals.{add-one}
use native.Mathlib.Decide.{ℕ_discrete}
use native.Mathlib.Nat.{add-zero, suc-add, add-suc}
use mathlib.Core.Path.{◌≡◌, refl, sym, ap, ◌∙◌}
use mathlib.Core.List.{List, ◌∷◌}
use Rattle.std.specs.Prelude.{None, Some, find, cond, option_map, Option}
use mathlib.Core.Bool.{true, false, ◌&&◌, and-false}
use lib.Dec.{eqb}
use lib.ListN.{length, take, drop, get_or, set, length-set}
use lib.Seq.{get_or-set_same, get_or-set_other, ext_get_or}
use borrow.Author.Tests.{eq-eqb, ne_eqb}
use Rattle.lists.proofs.Table.{left_row}
use Rattle.node.specs.declared.record.NodeId.{NodeId}
use Rattle.node.specs.declared.record.Edge.{Edge}
use Rattle.edges.specs.Wiring.{ends_at, taken}
use Rattle.edges.specs.Ports.{lowest, source_at, sources_from}

-- ---- the lowest port: from the port p on, `top - p` ports are left
module _ (es : List Edge) (n : NodeId) (top p : ℕ) where
  left_one : p < top → top - p ≡ suc (top - (p + 1))
  left_one h = omega arith

  pub lowest_found : p < top → taken es n p ≡ false → lowest (top - p) es n p ≡ Some p
  lowest_found h e = rw (left_one h, e)

  pub lowest_pass : p < top → taken es n p ≡ true → lowest (top - p) es n p ≡ lowest (top - (p + 1)) es n (p + 1)
  lowest_pass h e = rw (left_one h, e, add-one)

  pub lowest_none : top ≤ p → lowest (top - p) es n p ≡ None
  lowest_none h = let z : top - p ≡ 0 = omega arith in rw z

-- ---- the table of sources
pub length_sources : (k : ℕ) (es : List Edge) (n : NodeId) (p : ℕ) → length (sources_from k es n p) ≡ k
unfolding sources_from
length_sources zero es n p = refl
length_sources (suc k) es n p = ap suc (length_sources k es n (suc p))

pub source_in : (k : ℕ) (es : List Edge) (n : NodeId) (p i : ℕ) (d : Option NodeId) → i < k → get_or (sources_from k es n p) i d ≡ source_at es n (p + i)
unfolding sources_from
source_in zero es n p i d h = absurd (omega arith)
source_in (suc k) es n p zero d h = ap (λ m. source_at es n m) (sym (add-zero p))
source_in (suc k) es n p (suc i) d h = let less : i < k = omega arith in source_in k es n (suc p) i d less ∙ ap (λ m. source_at es n m) (suc-add p i ∙ sym (add-suc p i))

-- a walk from the last row to the first: the row before those that were passed
pub row_before : (rows : List Edge) (n i : ℕ) (d : Edge) → 0 < i → i ≤ n → n ≤ length rows → drop (i - 1) (take n rows) ≡ get_or rows (i - 1) d ∷ drop i (take n rows)
row_before rows n i d h k l =
    let less : i - 1 < n = omega arith in
    let back : i - 1 + 1 ≡ i = omega arith in
    left_row d rows n (i - 1) less l ∙ ap (λ m. get_or rows (i - 1) d ∷ drop m (take n rows)) back

-- the table says of each port below 64 what feeds it by these edges
abbrev pub Says : List (Option NodeId) → List Edge → NodeId → Type 0
Says table es n = (length table ≡ 64) × ((p : ℕ) → p < 64 → get_or table p None ≡ source_at es n p)

module _ (table : List (Option NodeId)) (e : Edge) (es : List Edge) (n : NodeId) (all : List Edge) (row : all ≡ e ∷ es) (inv : Says table es n) where
  -- an edge before the others that does not end at a port below 64 of the node
  pub says_skip : ((p : ℕ) → p < 64 → ends_at n p e ≡ false) → Says table all n
  says_skip off = rw row (inv.0, λ p h. inv.1 p h ∙ ap (λ b. option_map (λ x. x.from) (cond b (Some e) (find (ends_at n p) es))) (sym (off p h)))

  pub says_node : (e.to.0 ≡ n.0 → ⊥) → Says table all n
  says_node o = says_skip (λ p h. ap (λ b. b && eqb e.port p) (ne_eqb e.to.0 n.0 o))

  pub says_port : 64 ≤ e.port → Says table all n
  says_port o = says_skip (λ p h. ap (λ b. eqb e.to.0 n.0 && b) (ne_eqb e.port p (λ z. omega arith)) ∙ and-false (eqb e.to.0 n.0))

  -- one that does is the first there
  pub says_hit : e.to.0 ≡ n.0 → e.port < 64 → Says (set table e.port (Some e.from)) all n
  says_hit t o = rw row (length-set table e.port (Some e.from) ∙ inv.0, λ p h. go p h (ℕ_discrete p e.port))
    where
      long : length table ≡ 64
      long = inv.0

      go : (p : ℕ) → p < 64 → Dec (p ≡ e.port) → get_or (set table e.port (Some e.from)) p None ≡ source_at (e ∷ es) n p
      go p h (yes s) =
          let inside : e.port < length table = omega (arith, long) in
          let hit : ends_at n p e ≡ true = rw (eq-eqb _ _ t, eq-eqb e.port p (sym s)) in
          ap (λ k. get_or (set table e.port (Some e.from)) k None) s
          ∙ get_or-set_same table e.port (Some e.from) None inside
          ∙ ap (λ b. option_map (λ x. x.from) (cond b (Some e) (find (ends_at n p) es))) (sym hit)
      go p h (no o') =
          let off : ends_at n p e ≡ false = ap (λ b. eqb e.to.0 n.0 && b) (ne_eqb e.port p (λ z. o' (sym z))) ∙ and-false (eqb e.to.0 n.0) in
          get_or-set_other table e.port p (Some e.from) None o'
          ∙ inv.1 p h
          ∙ ap (λ b. option_map (λ x. x.from) (cond b (Some e) (find (ends_at n p) es))) (sym off)

pub says_all : (table : List (Option NodeId)) (es : List Edge) (n : NodeId) → Says table es n → table ≡ sources_from 64 es n 0
says_all table es n inv =
    let long : length table ≡ 64 = inv.0 in
    ext_get_or None table (sources_from 64 es n 0) (long ∙ sym (length_sources 64 es n 0))
    (λ p h. let less : p < 64 = omega arith in inv.1 p less ∙ sym (source_in 64 es n 0 p None less ∙ ap (λ m. source_at es n m) (omega arith)))
