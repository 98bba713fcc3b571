-- Who owns the node of an id, and what appending, removing and replacing nodes does to that.
use Prim.Native.Nat.{ℕ, ◌+◌, ◌≤◌, ◌<◌}
use native.Mathlib.Omega.{arith}
use mathlib.Core.Path.{◌≡◌, refl, sym, ap, ◌∙◌}
use mathlib.Core.Logic.{⊎_elim}
use mathlib.Core.List.{List, [], ◌∷◌, ◌++◌}
use Rattle.std.specs.Prelude.{Option, None, Some, filter, is_some, option_map}
use mathlib.Core.Bool.{Bool, true, false, not, cond}
use lib.Dec.{eqb}
use borrow.Author.Tests.{eqb-true, eq-eqb, ne_eqb}
use Rattle.lists.specs.Member.{In}
use Rattle.lists.proofs.Member.{some_inj, none_some, in_snoc, in_map}
use Rattle.lists.proofs.Filter.{in_filter}
use Rattle.lists.specs.Find.{filter_o, Once}
use Rattle.lists.proofs.Find.{find_in, none_find, find_snoc_off, find_snoc_none, find_filter, find_map}
use Rattle.lists.specs.Rising.{RisesFrom}
use Rattle.lists.proofs.Rising.{rises_filter, rises_snoc, rises_map, rises_once}
use Rattle.node.specs.declared.record.NodeId.{NodeId}
use Rattle.node.specs.declared.record.VoiceId.{VoiceId}
use Rattle.node.specs.declared.record.Node.{Node}
use Rattle.edges.specs.Wiring.{among}
use Rattle.graph.specs.Node.{is_node, owned_by, node_at, ports_of, with_id, replaced}
use Rattle.graph.specs.Change.{ids_of}
use Rattle.voice.specs.Voice.{id}
use Rattle.ledger.specs.Claim.{owner_of, owner_at}

abbrev pub ports_at : List Node → ℕ → ℕ
ports_at ns n = ports_of (node_at ns (id n))

-- nodes stand by rising id, all below the next; an owner is the host or a voice whose id was given out
pub record Listed (ns : List Node) (next given : ℕ) : Type 0 where
  pub rises : RisesFrom (λ (x : Node). x.id.0) 0 ns
  pub below : (x : Node) → In x ns → (x.id.0 < next) × (x.owner.0 ≤ given)

pub owner_some : (o : Option Node) (k : ℕ) → owner_of o ≡ Some k → (x : Node) × (o ≡ Some x) × (x.owner.0 ≡ k)
owner_some None k h = absurd (none_some h)
owner_some (Some x) k h = (x, refl, some_inj h)

some_if : (x : Node) (b : Bool) → is_some (cond b (Some x) None) ≡ b
some_if x true = refl
some_if x false = refl

-- a row that is replaced keeps its id
pub replaced_id : (n m : Node) → (cond (is_node n.id m) n m).id.0 ≡ m.id.0
replaced_id n m = go (is_node n.id m) refl
  where
    go : (b : Bool) → is_node n.id m ≡ b → (cond b n m).id.0 ≡ m.id.0
    go true e = sym (eqb-true m.id.0 n.id.0 e)
    go false e = refl

module _ {ns : List Node} {nx nv : ℕ} (l : Listed ns nx nv) where
  pub once : (k : NodeId) → Once (is_node k) ns
  once k = rises_once (λ (x : Node). x.id.0) 0 ns l.rises k.0

  pub live_below : (n k : ℕ) → owner_at ns n ≡ Some k → (n < nx) × (k ≤ nv)
  live_below n k h =
      let r = owner_some (node_at ns (id n)) k h in
      let i = find_in (is_node (id n)) ns r.0 r.1 in
      let e : r.0.id.0 ≡ n = eqb-true _ _ i.1 in
      let b = l.below r.0 i.0 in
      let o = r.2 in
      (omega (arith, b.0), omega (arith, b.1))

  pub fresh : node_at ns (id nx) ≡ None
  fresh = none_find (is_node (id nx)) ns (λ x i. ne_eqb x.id.0 nx (λ e. omega (arith, (l.below x i).0)))

  -- ---- a node is appended under the next id
  module _ (x : Node) where
    pub look_old : (n : ℕ) → n < nx → node_at (ns ++ (with_id nx x ∷ [])) (id n) ≡ node_at ns (id n)
    look_old n h = find_snoc_off (is_node (id n)) ns (with_id nx x) (ne_eqb nx n (λ q. omega arith))

    pub look_new : node_at (ns ++ (with_id nx x ∷ [])) (id nx) ≡ Some (with_id nx x)
    look_new = find_snoc_none (is_node (id nx)) ns (with_id nx x) fresh ∙ rw (eq-eqb nx nx refl)

    pub owner_old : (n : ℕ) → n < nx → owner_at (ns ++ (with_id nx x ∷ [])) n ≡ owner_at ns n
    owner_old n h = ap owner_of (look_old n h)

    pub owner_new : owner_at (ns ++ (with_id nx x ∷ [])) nx ≡ Some x.owner.0
    owner_new = ap owner_of look_new

    pub listed_append : x.owner.0 ≤ nv → Listed (ns ++ (with_id nx x ∷ [])) (nx + 1) nv
    listed_append o =
        record {
          rises = rises_snoc (λ (x : Node). x.id.0) 0 ns (with_id nx x) l.rises (omega arith) (λ y i. (l.below y i).0);
          below = λ y i. ⊎_elim (λ j. let b = l.below y j in (omega (arith, b.0), b.1)) (λ p. rw p (omega arith, o)) (in_snoc ns (with_id nx x) y i);
        }

  -- ---- the nodes that pass a test go
  module _ (goes : Node → Bool) where
    pub among_is : (k : NodeId) → among (ids_of goes ns) k ≡ is_some (filter_o goes (node_at ns k))
    among_is k =
        ap is_some (find_map (λ (x : Node). x.id.0) (λ j. eqb j k.0) (is_node k) (λ x. refl) (filter goes ns) ∙ ap (option_map (λ x. x.id.0)) (find_filter (is_node k) goes ns (once k)))
        ∙ go (filter_o goes (node_at ns k))
      where
        go : (o : Option Node) → is_some (option_map (λ x. x.id.0) o) ≡ is_some o
        go None = refl
        go (Some x) = refl

    pub look_thin : (k : NodeId) → node_at (filter (λ x. not (goes x)) ns) k ≡ cond (among (ids_of goes ns) k) None (node_at ns k)
    look_thin k = find_filter (is_node k) (λ x. not (goes x)) ns (once k) ∙ go (node_at ns k) ∙ ap (λ b. cond b None (node_at ns k)) (sym (among_is k))
      where
        at : (x : Node) (b : Bool) → cond (not b) (Some x) None ≡ cond (is_some (cond b (Some x) None)) None (Some x)
        at x true = refl
        at x false = refl

        go : (o : Option Node) → filter_o (λ x. not (goes x)) o ≡ cond (is_some (filter_o goes o)) None o
        go None = refl
        go (Some x) = at x (goes x)

    pub owner_thin : (n : ℕ) → owner_at (filter (λ x. not (goes x)) ns) n ≡ cond (among (ids_of goes ns) (id n)) None (owner_at ns n)
    owner_thin n = ap owner_of (look_thin (id n)) ∙ go (among (ids_of goes ns) (id n))
      where
        go : (b : Bool) → owner_of (cond b None (node_at ns (id n))) ≡ cond b None (owner_at ns n)
        go true = refl
        go false = refl

    pub ports_thin : (n : ℕ) → among (ids_of goes ns) (id n) ≡ false → ports_at (filter (λ x. not (goes x)) ns) n ≡ ports_at ns n
    ports_thin n h = ap ports_of (look_thin (id n)) ∙ rw h

    pub listed_thin : Listed (filter (λ x. not (goes x)) ns) nx nv
    listed_thin =
        record {
          rises = rises_filter (λ (x : Node). x.id.0) (λ x. not (goes x)) 0 ns l.rises;
          below = λ x i. l.below x (in_filter (λ x. not (goes x)) ns x i).0;
        }

  -- whose nodes go
  pub dead_voice : (w : VoiceId) (n k : ℕ) → owner_at ns n ≡ Some k → among (ids_of (owned_by w) ns) (id n) ≡ eqb k w.0
  dead_voice w n k h =
      let r = owner_some (node_at ns (id n)) k h in
      let o = r.2 in
      among_is (owned_by w) (id n) ∙ rw (r.1, o) (some_if r.0 (eqb k w.0))

  pub dead_node : (j : NodeId) (n k : ℕ) → owner_at ns n ≡ Some k → among (ids_of (is_node j) ns) (id n) ≡ eqb n j.0
  dead_node j n k h =
      let r = owner_some (node_at ns (id n)) k h in
      let e : r.0.id.0 ≡ n = eqb-true _ _ (find_in (is_node (id n)) ns r.0 r.1).1 in
      among_is (is_node j) (id n) ∙ rw (r.1, e) (some_if r.0 (eqb n j.0))

  -- ---- a node's record is replaced by one of the same id, owner and ports
  module _ (y x : Node) (k : NodeId) (h : node_at ns k ≡ Some x) (i : y.id.0 ≡ x.id.0) (o : y.owner.0 ≡ x.owner.0) (p : y.ports ≡ x.ports) where
    look_replaced : (n : ℕ) → node_at (replaced ns y) (id n) ≡ option_map (λ m. cond (is_node y.id m) y m) (node_at ns (id n))
    look_replaced n = find_map (λ m. cond (is_node y.id m) y m) (is_node (id n)) (is_node (id n)) (λ m. ap (λ j. eqb j n) (replaced_id y m)) ns

    -- the one of that id is x
    only : (m : Node) → In m ns → is_node y.id m ≡ true → m ≡ x
    only m j e =
        let f = find_in (is_node k) ns x h in
        let q : m.id.0 ≡ k.0 = eqb-true _ _ e ∙ i ∙ eqb-true _ _ f.1 in
        some_inj (sym (once k m j (eq-eqb _ _ q)) ∙ h)

    same_owner : (m : Node) → In m ns → (cond (is_node y.id m) y m).owner.0 ≡ m.owner.0
    same_owner m j = go (is_node y.id m) refl
      where
        go : (b : Bool) → is_node y.id m ≡ b → (cond b y m).owner.0 ≡ m.owner.0
        go true e = o ∙ ap (λ (z : Node). z.owner.0) (sym (only m j e))
        go false e = refl

    same_ports : (m : Node) → In m ns → (cond (is_node y.id m) y m).ports ≡ m.ports
    same_ports m j = go (is_node y.id m) refl
      where
        go : (b : Bool) → is_node y.id m ≡ b → (cond b y m).ports ≡ m.ports
        go true e = p ∙ ap (λ (z : Node). z.ports) (sym (only m j e))
        go false e = refl

    pub owner_replaced : (n : ℕ) → owner_at (replaced ns y) n ≡ owner_at ns n
    owner_replaced n = ap owner_of (look_replaced n) ∙ go (node_at ns (id n)) refl
      where
        go : (u : Option Node) → node_at ns (id n) ≡ u → owner_of (option_map (λ m. cond (is_node y.id m) y m) u) ≡ owner_of u
        go None e = refl
        go (Some m) e = ap Some (same_owner m (find_in (is_node (id n)) ns m e).0)

    pub ports_replaced : (n : ℕ) → ports_at (replaced ns y) n ≡ ports_at ns n
    ports_replaced n = ap ports_of (look_replaced n) ∙ go (node_at ns (id n)) refl
      where
        go : (u : Option Node) → node_at ns (id n) ≡ u → ports_of (option_map (λ m. cond (is_node y.id m) y m) u) ≡ ports_of u
        go None e = refl
        go (Some m) e = same_ports m (find_in (is_node (id n)) ns m e).0

    pub listed_replaced : Listed (replaced ns y) nx nv
    listed_replaced =
        record {
          rises = rises_map (λ (x : Node). x.id.0) (λ m. cond (is_node y.id m) y m) (replaced_id y) 0 ns l.rises;
          below = λ z j.
              let r = in_map (λ m. cond (is_node y.id m) y m) ns z j in
              let b = l.below r.0 r.1 in
              let e : z.id.0 ≡ r.0.id.0 = ap (λ (u : Node). u.id.0) r.2 ∙ replaced_id y r.0 in
              let q : z.owner.0 ≡ r.0.owner.0 = ap (λ (u : Node). u.owner.0) r.2 ∙ same_owner r.0 r.1 in
              (omega (arith, b.0), omega (arith, b.1));
        }
