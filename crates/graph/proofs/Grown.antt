-- Nodes and edges put into the graph at once: their rows, and that the graph stays sound.
use Prim.Native.Nat.{ℕ, zero, suc, ◌+◌, ◌-◌, ◌≤◌, ◌<◌}
use native.Mathlib.Omega.{arith}
use native.Mathlib.Decide.{ℕ_discrete}
use mathlib.Core.Path.{◌≡◌, refl, sym, ap, ◌∙◌, subst}
use mathlib.Core.Logic.{inl, inr}
use mathlib.Core.List.{List, [], ◌∷◌, ◌++◌}
use mathlib.Core.Bool.{Bool, true, false, not, cond, ◌&&◌, ◌||◌}
use lib.Dec.{eqb, leb, ltb}
use lib.ListN.{length, take, drop, get_or, length-append, length-drop}
use lib.Seq.{length-take-le, take-append_seam}
use borrow.Author.Tests.{eqb-true, eq-eqb, ne_eqb, leb-true, lt-leb, ltb-true, ltb-false, lt-ltb, le-ltb}
use Rattle.std.specs.Prelude.{None, Some, is_some, find, option_map}
use Rattle.std.specs.List.{position, position_or_len, list_all}
use Rattle.std.proofs.lemmas.List.{append_assoc, append-nil, take_more}
use Rattle.std.proofs.lemmas.List.Elements.{filter-append}
use Rattle.lists.specs.Member.{In}
use Rattle.lists.specs.Lone.{Lone}
use Rattle.lists.proofs.Member.{and_left, and_right, in_left, in_right, none_some}
use Rattle.lists.proofs.Find.{none_find}
use Rattle.lists.proofs.Lone.{rest_all}
use Rattle.node.specs.declared.record.NodeId.{NodeId}
use Rattle.node.specs.declared.record.Node.{Node}
use Rattle.node.specs.declared.record.Edge.{Edge}
use Rattle.edges.specs.Wiring.{ends_at, drop_at, wired, no_place, taken}
use Rattle.edges.proofs.Wiring.{length_wired}
use Rattle.graph.specs.View.{GraphView}
use Rattle.graph.specs.Node.{node_at, with_id}
use Rattle.graph.specs.Change.{append, connect}
use Rattle.graph.specs.Sound.{Sound, Lives}
use Rattle.graph.specs.Grown.{append_all, connect_all, is_new, will_live, joins_new, joins, few_ports, has_room, fits, grown, numbered, wired_all}
use Rattle.graph.proofs.Calls.{same_view}
use Rattle.graph.proofs.Kept.{lone_wired, lives_in, living, sound_snoc, sound_wired}

-- ---- nodes under the next ids
pub numbered_snoc : (k : ℕ) (l : List Node) (x : Node) → numbered k (l ++ x ∷ []) ≡ numbered k l ++ with_id (k + length l) x ∷ []
numbered_snoc k [] x = let same : k ≡ k + 0 = omega arith in ap (λ j. with_id j x ∷ []) same
numbered_snoc k (n ∷ l) x =
    let same : k + 1 + length l ≡ k + suc (length l) = omega arith in
    ap (λ z. with_id k n ∷ z) (numbered_snoc (k + 1) l x ∙ ap (λ j. numbered (k + 1) l ++ with_id j x ∷ []) same)

pub length_numbered : (k : ℕ) (l : List Node) → length (numbered k l) ≡ length l
length_numbered k [] = refl
length_numbered k (n ∷ l) = ap suc (length_numbered (k + 1) l)

-- ---- edges, one after the other
pub wired_all_snoc : (es l : List Edge) (x : Edge) → wired_all es (l ++ x ∷ []) ≡ wired (wired_all es l) x
wired_all_snoc es [] x = refl
wired_all_snoc es (e ∷ l) x = wired_all_snoc (wired es e) l x

pub length_wired_all : (es l : List Edge) → length (wired_all es l) ≤ length es + length l
length_wired_all es [] = omega arith
length_wired_all es (e ∷ l) = omega (arith, length_wired_all (wired es e) l, length_wired es e)

pub lone_wired_all : (es l : List Edge) → ((b : NodeId) (p : ℕ) → Lone (ends_at b p) es) → (b : NodeId) (p : ℕ) → Lone (ends_at b p) (wired_all es l)
lone_wired_all es [] h = h
lone_wired_all es (e ∷ l) h = lone_wired_all (wired es e) l (lone_wired es e h)

-- ---- a row that stands behind those that do not pass
module _ {A : Type 0} (q : A → Bool) where
  place_behind : (k : ℕ) (l : List A) → find q (take k l) ≡ None → k ≤ length l → position_or_len q l ≡ k + position_or_len q (drop k l)
  place_behind zero l h m = omega arith
  place_behind (suc k) [] h m = absurd (omega arith)
  place_behind (suc k) (x ∷ l) h m = go (q x) refl h (place_behind k l)
    where
      go : (b : Bool) → q x ≡ b → cond b (Some x) (find q (take k l)) ≡ None → (find q (take k l) ≡ None → k ≤ length l → position_or_len q l ≡ k + position_or_len q (drop k l))
          → cond (not b) (1 + position_or_len q l) 0 ≡ suc k + position_or_len q (drop k l)
      go true e f ih = absurd (none_some (sym f))
      go false e f ih = let r : position_or_len q l ≡ k + position_or_len q (drop k l) = ih f (omega arith) in omega (arith, r)

  pub position_behind : (k : ℕ) (l : List A) → find q (take k l) ≡ None → k ≤ length l → option_map (λ i. k + i) (position q (drop k l)) ≡ position q l
  position_behind k l h m = go (ltb a (length (drop k l))) refl
    where
      a : ℕ
      a = position_or_len q (drop k l)

      at : position_or_len q l ≡ k + a
      at = place_behind k l h m

      go : (b : Bool) → ltb a (length (drop k l)) ≡ b → option_map (λ i. k + i) (cond b (Some a) None) ≡ position q l
      go true e = let inside : k + a < length l = omega (arith, ltb-true _ _ e, length-drop k l) in rw (at, lt-ltb _ _ inside) refl
      go false e = let past : length l ≤ k + a = omega (arith, ltb-false _ _ e, length-drop k l) in rw (at, le-ltb _ _ past) refl

-- ---- an edge behind rows that do not end at its port
pub wired_behind : (a b : List Edge) (e : Edge) → find (ends_at e.to e.port) a ≡ None → wired (a ++ b) e ≡ a ++ wired b e
wired_behind a b e h =
    ap (λ l. l ++ e ∷ []) (filter-append (λ d. not (ends_at e.to e.port d)) a b ∙ ap (λ l. l ++ drop_at b e.to e.port) (rest_all (ends_at e.to e.port) a h))
    ∙ append_assoc a (drop_at b e.to e.port) (e ∷ [])

-- no row ends at a node whose id is not below the next
pub none_above : (a : List Edge) (next : ℕ) (e : Edge) → ((d : Edge) → In d a → d.to.0 < next) → next ≤ e.to.0 → find (ends_at e.to e.port) a ≡ None
none_above a next e below m = none_find (ends_at e.to e.port) a (λ d i. ap (λ b. b && eqb d.port e.port) (ne_eqb d.to.0 e.to.0 (λ s. omega (arith, s, m, below d i))))

-- ---- one more in a loop, from the first i on
pub appended_more : (a : List Node) (next : ℕ) (l : List Node) (i : ℕ) (b : List Node) (k : ℕ) → b ≡ a ++ numbered next (take i l) → k ≡ next + i → i < length l → (d : Node)
    → b ++ with_id k (get_or l i d) ∷ [] ≡ a ++ numbered next (take (i + 1) l)
appended_more a next l i b k e s m d =
    let long : length (take i l) ≡ i = length-take-le i l (omega (arith, m)) in
    let same : k ≡ next + length (take i l) = omega (arith, s, long) in
    ap (λ z. z ++ with_id k (get_or l i d) ∷ []) e
    ∙ append_assoc a (numbered next (take i l)) (with_id k (get_or l i d) ∷ [])
    ∙ ap (λ z. a ++ z) (ap (λ j. numbered next (take i l) ++ with_id j (get_or l i d) ∷ []) same ∙ sym (numbered_snoc next (take i l) (get_or l i d)) ∙ ap (numbered next) (sym (take_more l i d m)))

pub wired_more : (es l : List Edge) (i : ℕ) (d : Edge) → i < length l → wired_all es (take (i + 1) l) ≡ wired (wired_all es (take i l)) (get_or l i d)
wired_more es l i d m = ap (wired_all es) (take_more l i d m) ∙ wired_all_snoc es (take i l) (get_or l i d)

pub wired_more_behind : (a l b : List Edge) (i : ℕ) (d : Edge) → i < length l → b ≡ a ++ wired_all [] (take i l) → find (ends_at (get_or l i d).to (get_or l i d).port) a ≡ None
    → wired b (get_or l i d) ≡ a ++ wired_all [] (take (i + 1) l)
wired_more_behind a l b i d m e fresh = ap (λ z. wired z (get_or l i d)) e ∙ wired_behind a (wired_all [] (take i l)) (get_or l i d) fresh ∙ ap (λ z. a ++ z) (sym (wired_more [] l i d m))

row_in : (l : List Edge) (i : ℕ) (d : Edge) → i < length l → In (get_or l i d) l
row_in [] i d m = absurd (omega arith)
row_in (x ∷ l) zero d m = inl refl
row_in (x ∷ l) (suc i) d m = let k : i < length l = omega arith in inr (row_in l i d k)

-- no row of the first ones ends at the port of an edge to a new node
pub fresh_before : (a l : List Edge) (next i : ℕ) (d : Edge) → ((e : Edge) → In e a → e.to.0 < next) → ((e : Edge) → In e l → next ≤ e.to.0) → i < length l → find (ends_at (get_or l i d).to (get_or l i d).port) a ≡ None
fresh_before a l next i d below above m = none_above a next (get_or l i d) below (above (get_or l i d) (row_in l i d m))

pub fresh_behind : (a b : List Edge) (k : ℕ) (q : Edge → Bool) (r : List Edge) → k ≡ length a → b ≡ a ++ r → find q a ≡ None → find q (take k b) ≡ None
fresh_behind a b k q r e s h = ap (find q) (ap (take k) s ∙ ap (λ j. take j (a ++ r)) e ∙ take-append_seam a r) ∙ h

pub few_wired : (es l : List Edge) (i : ℕ) → length es + length l ≤ 1024 → i < length l → length (wired_all es (take i l)) < 1024
few_wired es l i h m = let long : length (take i l) ≡ i = length-take-le i l (omega (arith, m)) in omega (arith, h, m, long, length_wired_all es (take i l))

-- ---- who lives then
lives_append : (a b : List Node) (k : NodeId) → Lives a k → Lives (a ++ b) k
lives_append a b k h = let r = living a k h in lives_in (a ++ b) k r.0 (in_left a b r.0 r.1) r.2

lives_numbered : (a l : List Node) (next : ℕ) (k : NodeId) → next ≤ k.0 → k.0 < next + length l → Lives (a ++ numbered next l) k
lives_numbered a [] next k m b = absurd (omega arith)
lives_numbered a (x ∷ l) next k m b = go (ℕ_discrete next k.0) (lives_numbered (a ++ with_id next x ∷ []) l (next + 1) k)
  where
    go : Dec (next ≡ k.0) → (next + 1 ≤ k.0 → k.0 < next + 1 + length l → Lives ((a ++ with_id next x ∷ []) ++ numbered (next + 1) l) k) → Lives (a ++ with_id next x ∷ numbered (next + 1) l) k
    go (yes e) ih = lives_in _ k (with_id next x) (in_right a (with_id next x ∷ numbered (next + 1) l) (with_id next x) (inl refl)) (eq-eqb next k.0 e)
    go (no o) ih =
        let after : next + 1 ≤ k.0 = omega (arith, o, m) in
        let before : k.0 < next + 1 + length l = omega arith in
        subst (λ z. Lives z k) (append_assoc a (with_id next x ∷ []) (numbered (next + 1) l)) (ih after before)

all_in : {A : Type 0} (p : A → Bool) (l : List A) → list_all p l ≡ true → (x : A) → In x l → p x ≡ true
all_in p [] h x i = absurd i
all_in p (y ∷ l) h x (inl s) = ap p s ∙ and_left (p y) _ h
all_in p (y ∷ l) h x (inr i) = all_in p l (and_right (p y) _ h) x i

-- ---- what is kept sound
sound_numbered : {es : List Edge} (ns l : List Node) (n : ℕ) → length ns + length l ≤ 512 → n + length l ≤ 4294967296 → list_all few_ports l ≡ true → Sound ns es n → Sound (ns ++ numbered n l) es (n + length l)
sound_numbered {es} ns [] n m k p h = let same : n ≡ n + 0 = omega arith in subst (λ z. Sound (ns ++ []) es z) same (subst (λ z. Sound z es n) (sym (append-nil ns)) h)
sound_numbered {es} ns (x ∷ l) n m k p h =
    let same : n + 1 + length l ≡ n + suc (length l) = omega arith in
    let first : Sound (ns ++ with_id n x ∷ []) es (n + 1) = sound_snoc (with_id n x) refl (leb-true _ _ (and_left (few_ports x) _ p)) (omega (arith, m)) (omega (arith, k)) h in
    let long : length (ns ++ with_id n x ∷ []) ≡ length ns + 1 = length-append ns (with_id n x ∷ []) in
    subst (λ z. Sound (ns ++ with_id n x ∷ numbered (n + 1) l) es z) same
    (subst (λ z. Sound z es (n + 1 + length l)) (append_assoc ns (with_id n x ∷ []) (numbered (n + 1) l))
    (sound_numbered (ns ++ with_id n x ∷ []) l (n + 1) (omega (arith, m, long)) (omega (arith, k)) (and_right (few_ports x) _ p) first))

pub has_place : (es : List Edge) (k : NodeId) (p : ℕ) → length es < 1024 → no_place es k p ≡ false
has_place es k p h = ap (λ b. b && not (taken es k p)) (lt-leb _ _ h)

sound_wired_all : {ns : List Node} {n : ℕ} (es l : List Edge) → length es + length l ≤ 1024 → ((e : Edge) → In e l → Lives ns e.from × Lives ns e.to) → Sound ns es n → Sound ns (wired_all es l) n
sound_wired_all es [] m both h = h
sound_wired_all es (e ∷ l) m both h =
    let ends = both e (inl refl) in
    sound_wired_all (wired es e) l (omega (arith, m, length_wired es e)) (λ d i. both d (inr i)) (sound_wired e ends.0 ends.1 (has_place es e.to e.port (omega (arith, m))) h)

module _ (g : GraphView) (ns : List Node) (inner : List Edge) (o : Edge) (h : Sound g.nodes g.edges g.next) (f : fits g ns inner o ≡ true) where
  room : has_room g (length ns) (length inner + 1) ≡ true
  room = and_left _ _ f

  rest : (list_all few_ports ns && (list_all (joins_new g.nodes g.next (length ns)) inner && joins g.nodes g.next (length ns) o)) ≡ true
  rest = and_right (has_room g (length ns) (length inner + 1)) _ f

  ends : (list_all (joins_new g.nodes g.next (length ns)) inner && joins g.nodes g.next (length ns) o) ≡ true
  ends = and_right (list_all few_ports ns) _ rest

  counts : (leb (length ns) (4294967296 - g.next) && leb (length inner + 1) (1024 - length g.edges)) ≡ true
  counts = and_right (leb (length ns) (512 - length g.nodes)) _ room

  places : length g.nodes + length ns ≤ 512
  places = omega (arith, h.few_nodes, leb-true (length ns) (512 - length g.nodes) (and_left _ _ room))

  ids : g.next + length ns ≤ 4294967296
  ids = omega (arith, h.ids, leb-true (length ns) (4294967296 - g.next) (and_left _ _ counts))

  wires : length g.edges + (length inner + 1) ≤ 1024
  wires = omega (arith, h.few_edges, leb-true (length inner + 1) (1024 - length g.edges) (and_right (leb (length ns) (4294967296 - g.next)) _ counts))

  abbrev then : List Node
  then = g.nodes ++ numbered g.next ns

  new_lives : (k : NodeId) → is_new g.next (length ns) k ≡ true → Lives then k
  new_lives k e =
      let low : g.next ≤ k.0 = leb-true _ _ (and_left _ _ e) in
      let high : k.0 - g.next < length ns = ltb-true _ _ (and_right (leb g.next k.0) _ e) in
      lives_numbered g.nodes ns g.next k low (omega (arith, low, high))

  then_lives : (k : NodeId) → will_live g.nodes g.next (length ns) k ≡ true → Lives then k
  then_lives k e = go (is_new g.next (length ns) k) refl e
    where
      go : (b : Bool) → is_new g.next (length ns) k ≡ b → (b || is_some (node_at g.nodes k)) ≡ true → Lives then k
      go true s e = new_lives k s
      go false s e = lives_append g.nodes (numbered g.next ns) k e

  joined : (e : Edge) → In e inner → joins_new g.nodes g.next (length ns) e ≡ true
  joined e i = all_in _ inner (and_left _ _ ends) e i

  pub above : (e : Edge) → In e inner → g.next ≤ e.to.0
  above e i = leb-true _ _ (and_left _ _ (and_left _ _ (joined e i)))

  pub below : (e : Edge) → In e g.edges → e.to.0 < g.next
  below e i = let r = living g.nodes e.to (h.ends e i).1 in let same : r.0.id.0 ≡ e.to.0 = eqb-true _ _ r.2 in omega (arith, same, h.below r.0 r.1)

  both : (e : Edge) → In e inner → Lives then e.from × Lives then e.to
  both e i = (then_lives e.from (and_right (is_new g.next (length ns) e.to) _ (joined e i)), new_lives e.to (and_left _ _ (joined e i)))

  joins_then : joins g.nodes g.next (length ns) o ≡ true
  joins_then = and_right (list_all (joins_new g.nodes g.next (length ns)) inner) _ ends

  pub outer_room : no_place (wired_all g.edges inner) o.to o.port ≡ false
  outer_room = has_place (wired_all g.edges inner) o.to o.port (omega (arith, wires, length_wired_all g.edges inner))

  pub sound_grown : Sound then (wired (wired_all g.edges inner) o) (g.next + length ns)
  sound_grown =
      sound_wired o (then_lives o.from (and_left _ _ joins_then)) (lives_append g.nodes (numbered g.next ns) o.to (and_right (will_live g.nodes g.next (length ns) o.from) _ joins_then)) outer_room
      (sound_wired_all g.edges inner (omega (arith, wires)) both (sound_numbered g.nodes ns g.next places ids (and_left _ _ rest) h))

-- ---- the parts of the graph then
nodes_append : (g : GraphView) (ns : List Node) → (append_all g ns).nodes ≡ g.nodes ++ numbered g.next ns
nodes_append g [] = sym (append-nil g.nodes)
nodes_append g (n ∷ ns) = nodes_append (append g n) ns ∙ append_assoc g.nodes (with_id g.next n ∷ []) (numbered (g.next + 1) ns)

edges_append : (g : GraphView) (ns : List Node) → (append_all g ns).edges ≡ g.edges
edges_append g [] = refl
edges_append g (n ∷ ns) = edges_append (append g n) ns

sink_append : (g : GraphView) (ns : List Node) → (append_all g ns).sink ≡ g.sink
sink_append g [] = refl
sink_append g (n ∷ ns) = sink_append (append g n) ns

order_append : (g : GraphView) (ns : List Node) → (append_all g ns).order ≡ g.order
order_append g [] = refl
order_append g (n ∷ ns) = order_append (append g n) ns

next_append : (g : GraphView) (ns : List Node) → (append_all g ns).next ≡ g.next + length ns
next_append g [] = let same : g.next ≡ g.next + 0 = omega arith in same
next_append g (n ∷ ns) = let same : g.next + 1 + length ns ≡ g.next + suc (length ns) = omega arith in next_append (append g n) ns ∙ same

nodes_connect : (g : GraphView) (es : List Edge) → (connect_all g es).nodes ≡ g.nodes
nodes_connect g [] = refl
nodes_connect g (e ∷ es) = nodes_connect (connect g e.from e.to e.port) es

edges_connect : (g : GraphView) (es : List Edge) → (connect_all g es).edges ≡ wired_all g.edges es
edges_connect g [] = refl
edges_connect g (e ∷ es) = edges_connect (connect g e.from e.to e.port) es

sink_connect : (g : GraphView) (es : List Edge) → (connect_all g es).sink ≡ g.sink
sink_connect g [] = refl
sink_connect g (e ∷ es) = sink_connect (connect g e.from e.to e.port) es

order_connect : (g : GraphView) (es : List Edge) → (connect_all g es).order ≡ g.order
order_connect g [] = refl
order_connect g (e ∷ es) = order_connect (connect g e.from e.to e.port) es

next_connect : (g : GraphView) (es : List Edge) → (connect_all g es).next ≡ g.next
next_connect g [] = refl
next_connect g (e ∷ es) = next_connect (connect g e.from e.to e.port) es

module _ (g : GraphView) (ns : List Node) (inner : List Edge) (o : Edge) where
  pub grown_is : (v : GraphView) → v.nodes ≡ g.nodes ++ numbered g.next ns → v.edges ≡ wired (wired_all g.edges inner) o → v.sink ≡ g.sink → v.prepared ≡ false → v.order ≡ g.order → v.next ≡ g.next + length ns → v ≡ grown g ns inner o
  grown_is v a b c d e k =
      let m : GraphView = append_all g ns in
      same_view v (grown g ns inner o)
      (a ∙ sym (nodes_connect m inner ∙ nodes_append g ns))
      (b ∙ sym (ap (λ l. wired l o) (edges_connect m inner ∙ ap (λ l. wired_all l inner) (edges_append g ns))))
      (c ∙ sym (sink_connect m inner ∙ sink_append g ns))
      d
      (e ∙ sym (order_connect m inner ∙ order_append g ns))
      (k ∙ sym (next_connect m inner ∙ next_append g ns))
