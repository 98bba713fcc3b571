-- To be removed one after the other is to be removed together: the nodes that pass a test, and then those that pass another one, are those that
-- pass the one or the other. The ids of the nodes need not be distinct.
use Prim.Native.Nat.{ℕ}
use native.Mathlib.Decide.{ℕ_discrete}
use mathlib.Core.Path.{◌≡◌, refl, sym, ap, fun_ext, ◌∙◌}
use mathlib.Core.List.{List, [], ◌∷◌, map}
use Rattle.std.specs.Prelude.{Option, None, Some, cond, filter, find, is_some}
use mathlib.Core.Bool.{Bool, true, false, not, ◌||◌, or_assoc, or-false, false≢true}
use lib.Dec.{eqb}
use borrow.Author.Tests.{eq-eqb, ne_eqb}
use Rattle.lists.proofs.Find.{find_none}
use Rattle.lists.specs.Member.{In}
use Rattle.lists.proofs.Member.{neither}
use Rattle.lists.proofs.Filter.{filter_filter, filter_same}
use Rattle.lists.specs.Find.{filter_o}
use Rattle.node.specs.declared.record.NodeId.{NodeId}
use Rattle.node.specs.declared.record.Node.{Node}
use Rattle.node.specs.declared.record.Edge.{Edge}
use Rattle.edges.specs.Wiring.{listed, among, touches}
use Rattle.graph.specs.View.{GraphView}
use Rattle.graph.specs.Change.{ids_of, without}
use Rattle.graph.proofs.Calls.{same_view}

-- ---- Bools
after : (a b c : Bool) → (c || (a || b)) ≡ (a || (c || b))
after true b true = refl
after true b false = refl
after false b c = refl

pairs : (a b c d : Bool) → ((a || b) || (c || d)) ≡ ((a || c) || (b || d))
pairs true b c d = refl
pairs false true true d = refl
pairs false true false d = refl
pairs false false c d = refl

-- ---- lists of numbers
pub listed_in : (ids : List ℕ) (x : ℕ) → In x ids → listed ids x ≡ true
listed_in ids x i = go (find (λ j. eqb j x) ids) refl
  where
    go : (o : Option ℕ) → find (λ j. eqb j x) ids ≡ o → is_some o ≡ true
    go None e = absurd (false≢true (sym (find_none (λ j. eqb j x) ids x e i) ∙ eq-eqb x x refl))
    go (Some k) e = refl

pub listed_more : (k x : ℕ) (ids : List ℕ) → listed (k ∷ ids) x ≡ (eqb x k || listed ids x)
listed_more k x ids = go (ℕ_discrete k x)
  where
    Found : Bool → Bool
    Found b = is_some (cond b (Some k) (find (λ j. eqb j x) ids))

    go : Dec (k ≡ x) → Found (eqb k x) ≡ (eqb x k || listed ids x)
    go (yes e) = ap Found (eq-eqb k x e) ∙ ap (λ b. b || listed ids x) (sym (eq-eqb x k (sym e)))
    go (no e) = ap Found (ne_eqb k x e) ∙ ap (λ b. b || listed ids x) (sym (ne_eqb x k (λ f. e (sym f))))

-- one number alone
pub listed_one : (k x : ℕ) → listed (k ∷ []) x ≡ eqb x k
listed_one k x = listed_more k x [] ∙ or-false (eqb x k)

module _ (q p : Node → Bool) where
  -- those that go then, of those that are left
  abbrev later : List Node → List ℕ
  later ns = ids_of p (filter (λ n. not (q n)) ns)

  ids_together : (ns : List Node) (x : ℕ) → listed (ids_of (λ n. q n || p n) ns) x ≡ (listed (ids_of q ns) x || listed (later ns) x)
  ids_together [] x = refl
  ids_together (n ∷ ns) x = go (q n) (p n) refl (ids_together ns x)
    where
      id : Node → ℕ
      id m = m.id.0

      all : List Node
      all = filter (λ m. q m || p m) ns

      left : List Node
      left = filter (λ m. not (q m)) ns

      go : (a b : Bool) → p n ≡ b → listed (map id all) x ≡ (listed (ids_of q ns) x || listed (ids_of p left) x)
          → listed (map id (cond (a || b) (n ∷ all) all)) x ≡ (listed (map id (cond a (n ∷ (filter q ns)) (filter q ns))) x || listed (ids_of p (cond (not a) (n ∷ left) left)) x)
      go true b e ih =
          listed_more (id n) x (map id all)
          ∙ ap (λ z. eqb x (id n) || z) ih
          ∙ sym (or_assoc (eqb x (id n)) (listed (ids_of q ns) x) (listed (ids_of p left) x))
          ∙ ap (λ z. z || listed (ids_of p left) x) (sym (listed_more (id n) x (ids_of q ns)))
      go false true e ih =
          listed_more (id n) x (map id all)
          ∙ ap (λ z. eqb x (id n) || z) ih
          ∙ after (listed (ids_of q ns) x) (listed (ids_of p left) x) (eqb x (id n))
          ∙ ap (λ z. listed (ids_of q ns) x || z) (sym (listed_more (id n) x (ids_of p left)))
          ∙ ap (λ b. listed (ids_of q ns) x || listed (map id (cond b (n ∷ (filter p left)) (filter p left))) x) (sym e)
      go false false e ih = ih ∙ ap (λ b. listed (ids_of q ns) x || listed (map id (cond b (n ∷ (filter p left)) (filter p left))) x) (sym e)

  module _ (ns : List Node) where
    touch_together : (e : Edge) → touches (ids_of (λ n. q n || p n) ns) e ≡ (touches (ids_of q ns) e || touches (later ns) e)
    touch_together e =
        ap (λ z. z || listed (ids_of (λ n. q n || p n) ns) e.to.0) (ids_together ns e.from.0)
        ∙ ap (λ z. (listed (ids_of q ns) e.from.0 || listed (later ns) e.from.0) || z) (ids_together ns e.to.0)
        ∙ pairs (listed (ids_of q ns) e.from.0) (listed (later ns) e.from.0) (listed (ids_of q ns) e.to.0) (listed (later ns) e.to.0)

    sink_together : (o : Option NodeId) → filter_o (λ k. not (among (later ns) k)) (filter_o (λ k. not (among (ids_of q ns) k)) o) ≡ filter_o (λ k. not (among (ids_of (λ n. q n || p n) ns) k)) o
    sink_together None = refl
    sink_together (Some k) = go (among (ids_of q ns) k) ∙ ap (λ b. cond (not b) (Some k) None) (sym (ids_together ns k.0))
      where
        go : (b : Bool) → filter_o (λ j. not (among (later ns) j)) (cond (not b) (Some k) None) ≡ cond (not (b || among (later ns) k)) (Some k) None
        go true = refl
        go false = refl

  pub without_together : (v : GraphView) → without p (without q v) ≡ without (λ n. q n || p n) v
  without_together v =
      same_view _ _
      (filter_filter (λ n. not (p n)) (λ n. not (q n)) v.nodes ∙ filter_same _ _ v.nodes (λ n i. neither (q n) (p n)))
      (filter_filter (λ e. not (touches (later v.nodes) e)) (λ e. not (touches (ids_of q v.nodes) e)) v.edges
      ∙ filter_same _ _ v.edges (λ e i. neither (touches (ids_of q v.nodes) e) (touches (later v.nodes) e) ∙ ap not (sym (touch_together v.nodes e))))
      (sink_together v.nodes v.sink)
      refl refl refl

-- the same test, said otherwise
pub without_same : (p q : Node → Bool) → ((n : Node) → p n ≡ q n) → (v : GraphView) → without p v ≡ without q v
without_same p q h v = ap (λ t. without t v) (fun_ext h)
