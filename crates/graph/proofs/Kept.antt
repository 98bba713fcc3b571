-- What keeps a graph sound. The laws take its parts apart, since a call leaves a record of its own.
use Prim.Native.Nat.{ℕ, ◌+◌, ◌≤◌, ◌<◌}
use native.Mathlib.Omega.{arith}
use mathlib.Core.Path.{◌≡◌, refl, sym, ap, ◌∙◌, subst}
use mathlib.Core.Logic.{⊎_elim}
use mathlib.Core.List.{List, [], ◌∷◌, ◌++◌, map}
use mathlib.Core.Bool.{Bool, true, false, not, ◌&&◌, ◌||◌, false≢true}
use lib.Dec.{eqb, ltb, leb}
use lib.ListN.{length, length-append, length-map}
use borrow.Author.Tests.{eqb-true, not-true, ltb-false, leb-false}
use Rattle.std.specs.Prelude.{Option, None, Some, is_some, cond, find, filter}
use Rattle.lists.specs.Member.{In}
use Rattle.lists.specs.Lone.{Lone}
use Rattle.lists.proofs.Member.{and_left, and_right, in_snoc, in_map, in_left, in_of_map, map_same, none_some, some_inj}
use Rattle.lists.proofs.Filter.{in_filter, filter_in, filter_none, length_filter}
use Rattle.lists.proofs.Rising.{rises_filter, rises_snoc, rises_map, rises_once}
use Rattle.lists.proofs.Find.{find_in, none_find, find_none}
use Rattle.lists.proofs.Lone.{lone_filter, lone_snoc, lone_rising, changed_none}
use Rattle.node.specs.declared.record.NodeId.{NodeId}
use Rattle.node.specs.declared.record.Node.{Node}
use Rattle.node.specs.declared.record.Edge.{Edge}
use Rattle.edges.specs.Wiring.{ends_at, drop_at, wired, no_place, listed, among, touches, drop_touching}
use Rattle.edges.proofs.Wiring.{place_left}
use Rattle.graph.specs.View.{GraphView, with_nodes}
use Rattle.graph.specs.Node.{is_node, node_at, of_voice, ports_of}
use Rattle.graph.specs.Change.{ids_of}
use Rattle.graph.specs.Refuse.{host_test, wire_test, bad_kind}
use Rattle.graph.specs.Does.{changed_at, changed_node}
use Rattle.graph.specs.Sound.{Sound, Lives, id_of}
use Rattle.graph.proofs.Calls.{when_none}
use Rattle.graph.proofs.Together.{listed_in}

off : (es : List Edge) (e : Edge) (c : NodeId) (j : ℕ) → ends_at c j e ≡ true → (d : Edge) → In d (drop_at es e.to e.port) → ends_at c j d ≡ false
off es e c j h d i =
    let a : e.to.0 ≡ c.0 = eqb-true _ _ (and_left _ _ h) in
    let b : e.port ≡ j = eqb-true _ _ (and_right (eqb e.to.0 c.0) _ h) in
    ap (λ x. eqb d.to.0 x && eqb d.port j) (sym a) ∙ ap (λ x. eqb d.to.0 e.to.0 && eqb d.port x) (sym b) ∙ not-true _ (in_filter (λ d. not (ends_at e.to e.port d)) es d i).1

-- ---- who lives
pub lives_in : (ns : List Node) (k : NodeId) (n : Node) → In n ns → is_node k n ≡ true → Lives ns k
lives_in ns k n i h = go (node_at ns k) refl
  where
    go : (o : Option Node) → node_at ns k ≡ o → is_some o ≡ true
    go None e = absurd (false≢true (sym (find_none (is_node k) ns n e i) ∙ h))
    go (Some x) e = refl

pub living : (ns : List Node) (k : NodeId) → Lives ns k → (n : Node) × In n ns × (is_node k n ≡ true)
living ns k h = go (node_at ns k) refl h
  where
    go : (o : Option Node) → node_at ns k ≡ o → is_some o ≡ true → (n : Node) × In n ns × (is_node k n ≡ true)
    go None e r = absurd (false≢true r)
    go (Some n) e r = let f = find_in (is_node k) ns n e in (n, f.0, f.1)

lives_snoc : (ns : List Node) (x : Node) (k : NodeId) → Lives ns k → Lives (ns ++ x ∷ []) k
lives_snoc ns x k h = let r = living ns k h in lives_in (ns ++ x ∷ []) k r.0 (in_left ns (x ∷ []) r.0 r.1) r.2

pub lives_map : (g : Node → Node) → ((x : Node) → id_of (g x) ≡ id_of x) → (ns : List Node) (k : NodeId) → Lives ns k → Lives (map g ns) k
lives_map g e ns k h = let r = living ns k h in lives_in (map g ns) k (g r.0) (in_of_map g ns r.0 r.1) (ap (λ j. eqb j k.0) (e r.0) ∙ r.2)

-- a node that is none of those that go
lives_without : (goes : Node → Bool) (ns : List Node) (k : NodeId) → among (ids_of goes ns) k ≡ false → Lives ns k → Lives (filter (λ n. not (goes n)) ns) k
lives_without goes ns k off h = let r = living ns k h in lives_in _ k r.0 (filter_in (λ n. not (goes n)) ns r.0 r.1 (stays r.0 r.1 r.2 (goes r.0) refl)) r.2
  where
    stays : (n : Node) → In n ns → is_node k n ≡ true → (b : Bool) → goes n ≡ b → not b ≡ true
    stays n i s true e =
        let j : In n.id.0 (ids_of goes ns) = in_of_map id_of (filter goes ns) n (filter_in goes ns n i e) in
        absurd (false≢true (sym off ∙ ap (listed (ids_of goes ns)) (sym (eqb-true _ _ s)) ∙ listed_in (ids_of goes ns) n.id.0 j))
    stays n i s false e = refl

pub lone_wired : (es : List Edge) (e : Edge) → ((c : NodeId) (j : ℕ) → Lone (ends_at c j) es) → (c : NodeId) (j : ℕ) → Lone (ends_at c j) (wired es e)
lone_wired es e h c j =
    lone_snoc (ends_at c j) (drop_at es e.to e.port) e (lone_filter (ends_at c j) (λ d. not (ends_at e.to e.port d)) es (h c j))
    (λ x. none_find (ends_at c j) (drop_at es e.to e.port) (off es e c j x))

module _ {ns : List Node} {es : List Edge} {n : ℕ} where
  -- edges are dropped
  pub sound_filter : (t : Edge → Bool) → Sound ns es n → Sound ns (filter t es) n
  sound_filter t h =
      record {
        rises = h.rises;
        below = h.below;
        ports = h.ports;
        lone = λ c j. lone_filter (ends_at c j) t es (h.lone c j);
        ends = λ e i. h.ends e (in_filter t es e i).0;
        few_nodes = h.few_nodes;
        few_edges = omega (arith, length_filter t es, h.few_edges);
        ids = h.ids;
      }

  -- an edge between nodes that live takes its port, and has a place
  pub sound_wired : (e : Edge) → Lives ns e.from → Lives ns e.to → no_place es e.to e.port ≡ false → Sound ns es n → Sound ns (wired es e) n
  sound_wired e a b room h =
      let left : length (drop_at es e.to e.port) < 1024 = leb-false _ _ (place_left es e.to e.port h.few_edges ∙ room) in
      record {
        rises = h.rises;
        below = h.below;
        ports = h.ports;
        lone = lone_wired es e h.lone;
        ends = λ d i.
            ⊎_elim (λ j. h.ends d (in_filter (λ d. not (ends_at e.to e.port d)) es d j).0) (λ p. (subst (λ (x : Edge). Lives ns x.from) (sym p) a, subst (λ (x : Edge). Lives ns x.to) (sym p) b))
            (in_snoc (drop_at es e.to e.port) e d i);
        few_nodes = h.few_nodes;
        few_edges = omega (arith, length-append (drop_at es e.to e.port) (e ∷ []), left);
        ids = h.ids;
      }

  -- nodes go, and the edges that touch them
  pub sound_without : (goes : Node → Bool) → Sound ns es n → Sound (filter (λ x. not (goes x)) ns) (drop_touching es (ids_of goes ns)) n
  sound_without goes h =
      record {
        rises = rises_filter id_of t 0 ns h.rises;
        below = λ x i. h.below x (in_filter t ns x i).0;
        ports = λ x i. h.ports x (in_filter t ns x i).0;
        lone = λ c j. lone_filter (ends_at c j) u es (h.lone c j);
        ends = λ e i.
            let r = in_filter u es e i in
            let k = h.ends e r.0 in
            let o = untouched e r.1 in
            (lives_without goes ns e.from o.0 k.0, lives_without goes ns e.to o.1 k.1);
        few_nodes = omega (arith, length_filter t ns, h.few_nodes);
        few_edges = omega (arith, length_filter u es, h.few_edges);
        ids = h.ids;
      }
    where
      t : Node → Bool
      t x = not (goes x)

      u : Edge → Bool
      u e = not (touches (ids_of goes ns) e)

      neither_of : (a b : Bool) → not (a || b) ≡ true → (a ≡ false) × (b ≡ false)
      neither_of true b e = absurd (false≢true e)
      neither_of false true e = absurd (false≢true e)
      neither_of false false e = (refl, refl)

      untouched : (e : Edge) → u e ≡ true → (among (ids_of goes ns) e.from ≡ false) × (among (ids_of goes ns) e.to ≡ false)
      untouched e i = neither_of _ _ i

  -- a node more, under the next id
  pub sound_snoc : (x : Node) → x.id.0 ≡ n → x.ports ≤ 64 → length ns < 512 → n < 4294967296 → Sound ns es n → Sound (ns ++ x ∷ []) es (n + 1)
  sound_snoc x e m room more h =
      record {
        rises = rises_snoc id_of 0 ns x h.rises (omega arith) (λ y i. omega (arith, e, h.below y i));
        below = λ y i. ⊎_elim (λ j. omega (arith, h.below y j)) (λ p. let z : y.id.0 ≡ n = ap id_of p ∙ e in omega arith) (in_snoc ns x y i);
        ports = λ y i. ⊎_elim (λ j. h.ports y j) (λ p. let z : y.ports ≡ x.ports = ap (λ (w : Node). w.ports) p in omega arith) (in_snoc ns x y i);
        lone = h.lone;
        ends = λ d i. let k = h.ends d i in (lives_snoc ns x d.from k.0, lives_snoc ns x d.to k.1);
        few_nodes = omega (arith, length-append ns (x ∷ []), room);
        few_edges = h.few_edges;
        ids = omega (arith, more);
      }

  -- nodes change, and keep their ids and ports
  pub sound_map : (g : Node → Node) → ((x : Node) → id_of (g x) ≡ id_of x) → ((x : Node) → (g x).ports ≡ x.ports) → Sound ns es n → Sound (map g ns) es n
  sound_map g e m h =
      record {
        rises = rises_map id_of g e 0 ns h.rises;
        below = λ y i. let r = in_map g ns y i in let z : y.id.0 ≡ r.0.id.0 = ap id_of r.2 ∙ e r.0 in omega (arith, h.below r.0 r.1);
        ports = λ y i. let r = in_map g ns y i in let z : y.ports ≡ r.0.ports = ap (λ (w : Node). w.ports) r.2 ∙ m r.0 in omega (arith, h.ports r.0 r.1);
        lone = h.lone;
        ends = λ d i. let k = h.ends d i in (lives_map g e ns d.from k.0, lives_map g e ns d.to k.1);
        few_nodes = omega (arith, length-map ns g, h.few_nodes);
        few_edges = h.few_edges;
        ids = h.ids;
      }

  -- the node of one id changes, and keeps its id and ports
  pub sound_changed : (k : NodeId) (g : Node → Node) → ((x : Node) → id_of (g x) ≡ id_of x) → ((x : Node) → (g x).ports ≡ x.ports) → Sound ns es n → Sound (changed_at k g ns) es n
  sound_changed k g e m h = sound_map (λ x. cond (is_node k x) (g x) x) (λ x. same x (is_node k x)) (λ x. kept x (is_node k x)) h
    where
      same : (x : Node) (b : Bool) → id_of (cond b (g x) x) ≡ id_of x
      same x true = e x
      same x false = refl

      kept : (x : Node) (b : Bool) → (cond b (g x) x).ports ≡ x.ports
      kept x true = m x
      kept x false = refl

-- the node of an id is the only one, where ids rise: changed in its place, it is replaced
pub changed_is : (v : GraphView) (k : NodeId) (g : Node → Node) → ((x : Node) → id_of (g x) ≡ id_of x) → Sound v.nodes v.edges v.next
    → with_nodes v (changed_at k g v.nodes) ≡ changed_node (node_at v.nodes k) g v
changed_is v k g e h = go (node_at v.nodes k) refl
  where
    row : (n : Node) → node_at v.nodes k ≡ Some n → (m : Node) → In m v.nodes → (b : Bool) → is_node k m ≡ b → cond b (g m) m ≡ cond b (g n) m
    row n f m j true s = ap g (some_inj (sym (rises_once id_of 0 v.nodes h.rises k.0 m j s) ∙ f))
    row n f m j false s = refl

    go : (o : Option Node) → node_at v.nodes k ≡ o → with_nodes v (changed_at k g v.nodes) ≡ changed_node o g v
    go None f = ap (with_nodes v) (changed_none (is_node k) g v.nodes f)
    go (Some n) f =
        let i = find_in (is_node k) v.nodes n f in
        let same : (g n).id.0 ≡ k.0 = e n ∙ eqb-true _ _ i.1 in
        ap (with_nodes v) (map_same _ _ v.nodes (λ m j. row n f m j (is_node k m) refl ∙ ap (λ z. cond (eqb m.id.0 z) (g n) m) (sym same)))

-- the ids of the rows of one id
ids_one : (k : NodeId) (ns : List Node) → Lone (is_node k) ns → is_some (node_at ns k) ≡ true → k.0 ∷ [] ≡ ids_of (is_node k) ns
ids_one k [] h e = absurd (false≢true e)
ids_one k (x ∷ l) h e = go (is_node k x) refl e (ids_one k l h.1)
  where
    go : (b : Bool) → is_node k x ≡ b → is_some (cond b (Some x) (find (is_node k) l)) ≡ true → (is_some (find (is_node k) l) ≡ true → k.0 ∷ [] ≡ ids_of (is_node k) l) → k.0 ∷ [] ≡ map id_of (cond b (x ∷ filter (is_node k) l) (filter (is_node k) l))
    go true f g ih = ap (λ j. j ∷ []) (sym (eqb-true _ _ f)) ∙ ap (λ z. id_of x ∷ map id_of z) (sym (filter_none (is_node k) l (λ y i. find_none (is_node k) l y (h.0 f) i)))
    go false f g ih = ih g

some_host : (o : Option Node) → host_test o ≡ None → is_some o ≡ true
some_host None e = absurd (none_some (sym e))
some_host (Some x) e = refl

-- a node of the host lives alone under its id
pub host_ids : (k : NodeId) {ns : List Node} {es : List Edge} {n : ℕ} → Sound ns es n → host_test (node_at ns k) ≡ None → k.0 ∷ [] ≡ ids_of (is_node k) ns
host_ids k {ns} h e = ids_one k ns (lone_rising id_of k.0 0 ns h.rises) (some_host (node_at ns k) e)

-- a kind that is not refused has no more than 64 ports
pub kind_ports : (kind : List ℕ) (ports required : ℕ) → bad_kind kind ports required ≡ false → ports ≤ 64
kind_ports kind ports required h = ltb-false 64 ports (go (ltb 64 ports) _ h)
  where
    go : (a b : Bool) → (a || b) ≡ false → a ≡ false
    go true b e = e
    go false b e = refl

-- two nodes that the host may wire live, and the edge has a place
pub wire_fits : (a b : Option Node) (p : ℕ) (full : Bool) → wire_test a b p full ≡ None → (is_some a ≡ true) × (is_some b ≡ true) × (full ≡ false)
wire_fits None b p full e = absurd (none_some (sym e))
wire_fits (Some x) None p full e = absurd (none_some (sym e))
wire_fits (Some x) (Some y) p full e =
    let one = when_none (of_voice (Some x) || of_voice (Some y)) _ _ e in
    let two = when_none (leb (ports_of (Some y)) p) _ _ one.1 in
    (refl, refl, (when_none full _ _ two.1).0)
