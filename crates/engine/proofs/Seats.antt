-- What a fade and a new voice put into the graph is what the model says, where there is room.
use Prim.Native.Nat.{ℕ, ◌+◌, ◌-◌, ◌≤◌, ◌<◌, min}
use native.Mathlib.Omega.{arith}
use mathlib.Core.Path.{◌≡◌, refl, sym, ap, ◌∙◌}
use mathlib.Core.Logic.{inl, inr, ⊎_elim}
use mathlib.Core.List.{List, [], ◌∷◌, ◌++◌, map, append-nil}
use mathlib.Core.Bool.{Bool, true, false, not, cond, ◌&&◌, ◌||◌, false≢true}
use Rattle.std.specs.Prelude.{Option, None, Some, filter, find, option_map, is_some}
use Rattle.std.specs.List.{list_all}
use lib.Dec.{eqb, leb, ltb}
use lib.ListN.{length, length-append, length-map}
use borrow.Author.Tests.{eq-eqb, le-leb, lt-ltb}
use Rattle.std.proofs.lemmas.Bool.{and_from}
use Rattle.std.proofs.lemmas.List.{map-append}
use Rattle.std.proofs.lemmas.List.Elements.{filter-append}
use Rattle.synthdef.proofs.Rows.{rows_few}
use Rattle.lists.specs.Member.{In}
use Rattle.lists.proofs.Member.{and_right, some_inj, none_some, in_append, in_map}
use Rattle.lists.proofs.Filter.{length_filter}
use Rattle.lists.proofs.Find.{find_in, find_none}
use Rattle.lists.proofs.Count.{count_is_length, count_filter}
use Rattle.node.specs.declared.record.NodeId.{NodeId}
use Rattle.node.specs.declared.record.VoiceId.{VoiceId}
use Rattle.node.specs.declared.record.Node.{Node}
use Rattle.node.specs.declared.record.Edge.{Edge}
use Rattle.edges.specs.Wiring.{ends_at, taken, drop_at, wired}
use Rattle.edges.specs.Ports.{feeds, port_from, free_port}
use Rattle.edges.proofs.Wiring.{drop_fewer}
use Rattle.graph.specs.View.{GraphView}
use Rattle.node.specs.Node.{with_noise}
use Rattle.graph.specs.Node.{node_at, with_id, ports_of, raise_noise, noise_raised, next_noise, is_node}
use Rattle.graph.specs.Change.{append, connect, edge}
use Rattle.graph.specs.Sound.{Sound, Lives, id_of}
use Rattle.graph.specs.Grown.{connect_all, is_new, will_live, joins_new, joins, few_ports, has_room, fits, grown, with_all}
use Rattle.graph.specs.Grown as grown
use Rattle.graph.proofs.Kept.{lives_map}
use Rattle.synthdef.specs.Tables.{node_rows, edge_rows}
use Rattle.synthdef.specs.Edges.{counted}
use Rattle.synthdef.proofs.EdgeLaws.{counted_in, length_counted}
use Rattle.synthdef.specs.Instance.{id_after, live_edges}
use Rattle.synthdef.specs.Limits.{allowed}
use Rattle.synthdef.specs.declared.def.DefEdge.{DefEdge}
use Rattle.synthdef.specs.declared.def.DefNode.{DefNode}
use Rattle.synthdef.specs.declared.def.SynthDef.{SynthDef}
use Rattle.synthdef.proofs.Within.{allowed_within}
use Rattle.voice.specs.declared.voices.Voice.{Voice}
use Rattle.voice.specs.Voice.{id, feeder}
use Rattle.model.specs.Spawn.{Wire, wire, def_wire, def_node, const_node, pan_node, fade_node, voice_nodes, voice_wires, voice_out, append_all, wire_all, instantiate_graph, fade_graph}
use Rattle.engine.specs.Spawning.{inner_edges, outer_edge}

-- ---- a fade
module _ (v : Voice) (p : ℕ) (g : GraphView) where
  pub fade_nodes : length (fade_graph v p g).nodes ≡ length g.nodes + 1
  fade_nodes = length-append g.nodes (with_id g.next (fade_node v.id) ∷ [])

  -- the port that the feeder feeds has an edge, which is replaced
  fed_taken : port_from g.edges (feeder v) v.bus ≡ Some p → taken g.edges v.bus p ≡ true
  fed_taken h = go (find (feeds (feeder v) v.bus) g.edges) refl h
    where
      seen : (d : Edge) → In d g.edges → ends_at v.bus p d ≡ true → (o : Option Edge) → find (ends_at v.bus p) g.edges ≡ o → is_some o ≡ true
      seen d i t None e = absurd (false≢true (sym (find_none (ends_at v.bus p) g.edges d e i) ∙ t))
      seen d i t (Some x) e = refl

      go : (o : Option Edge) → find (feeds (feeder v) v.bus) g.edges ≡ o → option_map (λ (e : Edge). e.port) o ≡ Some p → taken g.edges v.bus p ≡ true
      go None e q = absurd (none_some q)
      go (Some d) e q =
          let r = find_in (feeds (feeder v) v.bus) g.edges d e in
          let to = and_right (eqb d.from.0 (feeder v).0) (eqb d.to.0 v.bus.0) r.1 in
          seen d r.0 (and_from (eqb d.to.0 v.bus.0) (eqb d.port p) to (eq-eqb d.port p (some_inj q))) _ refl

  pub fade_edges_lem : port_from g.edges (feeder v) v.bus ≡ Some p → length (fade_graph v p g).edges ≤ length g.edges + 1
  fade_edges_lem h =
      let es = g.edges in
      let e = edge (feeder v) (id g.next) 0 in
      let off : Edge → Bool = λ d. not (ends_at v.bus p d) in
      let rest = drop_at es (id g.next) 0 in
      omega (
        arith,
        length-append (drop_at (wired es e) v.bus p) (edge (id g.next) v.bus p ∷ []),
        ap length (filter-append off rest (e ∷ [])),
        length-append (filter off rest) (filter off (e ∷ [])),
        length_filter off (e ∷ []),
        count_is_length off rest,
        count_is_length off es,
        count_filter off (λ d. not (ends_at (id g.next) 0 d)) es,
        drop_fewer es v.bus p (fed_taken h),
      )

-- ---- a new voice: ids within reach, and its edges
module _ (base : ℕ) where
  abbrev pub wire_edge : Wire → Edge
  wire_edge w = edge (id (base + w.from)) (id (base + w.to)) w.port

  id_within : (k : ℕ) → base + k < 4294967296 → id_after (id base) k ≡ id (base + k)
  id_within k h = let e : min (base + k) 4294967295 ≡ base + k = omega arith in ap id e

  live_wires : (l : List DefEdge) → ((e : DefEdge) → In e l → (base + e.from < 4294967296) × (base + e.to < 4294967296))
      → map wire_edge (map def_wire l) ≡ live_edges l (id base)
  live_wires [] h = refl
  live_wires (e ∷ l) h =
      let k = h e (inl refl) in
      ap (λ i. edge i (id (base + e.to)) e.port ∷ map wire_edge (map def_wire l)) (sym (id_within e.from k.0))
      ∙ ap (λ i. edge (id_after (id base) e.from) i e.port ∷ map wire_edge (map def_wire l)) (sym (id_within e.to k.1))
      ∙ ap (λ z. edge (id_after (id base) e.from) (id_after (id base) e.to) e.port ∷ z) (live_wires l (λ x i. h x (inr i)))

module _ (d : SynthDef) (ok : allowed d ≡ true) (base : ℕ) (ids : base + d.nodes.count + 2 ≤ 4294967296) where
  abbrev n : ℕ
  n = length (node_rows d.nodes)

  few : n ≤ d.nodes.count
  few = rows_few 24 d.nodes.count d.nodes.rows

  in_reach : (k : ℕ) → k < n + 2 → base + k < 4294967296
  in_reach k h = omega (arith, few, ids, h)

  own_wires : map (wire_edge base) (map def_wire (counted (edge_rows d.edges))) ≡ live_edges (counted (edge_rows d.edges)) (id base)
  own_wires =
      live_wires base (counted (edge_rows d.edges))
      (λ e i.
      let t = (allowed_within d ok).each_edge e (counted_in (edge_rows d.edges) e i) in
      (in_reach e.from (omega (arith, t.source)), in_reach e.to (omega (arith, t.target))))

  pub inner_wires : (pan : Bool) → map (wire_edge base) (voice_wires d pan) ≡ inner_edges (id base) d pan
  inner_wires false =
      ap (map (wire_edge base)) (append-nil (map def_wire (counted (edge_rows d.edges)))) ∙ own_wires ∙ sym (append-nil (live_edges (counted (edge_rows d.edges)) (id base)))
  inner_wires true =
      map-append (wire_edge base) (map def_wire (counted (edge_rows d.edges))) (wire d.output (n + 1) 0 ∷ wire n (n + 1) 1 ∷ [])
      ∙ ap (λ z. z ++ tail (id (base + d.output)) (id (base + n)) (id (base + (n + 1)))) own_wires
      ∙ ap (λ i. front ++ tail i (id (base + n)) (id (base + (n + 1)))) (sym (id_within base d.output (in_reach d.output (omega (arith, (allowed_within d ok).output)))))
      ∙ ap (λ i. front ++ tail (id_after (id base) d.output) i (id (base + (n + 1)))) (sym (id_within base n (in_reach n (omega arith))))
      ∙ ap (λ i. front ++ tail (id_after (id base) d.output) (id_after (id base) n) i) (sym (id_within base (n + 1) (in_reach (n + 1) (omega arith))))
    where
      front : List Edge
      front = live_edges (counted (edge_rows d.edges)) (id base)

      tail : NodeId → NodeId → NodeId → List Edge
      tail a k m = edge a m 0 ∷ edge k m 1 ∷ []

  pub outer_wire : (pan : Bool) (bus : NodeId) (p : ℕ) → edge (id (base + voice_out d pan)) bus p ≡ outer_edge (id base) d pan bus p
  outer_wire false bus p = ap (λ i. edge i bus p) (sym (id_within base d.output (in_reach d.output (omega (arith, (allowed_within d ok).output)))))
  outer_wire true bus p = ap (λ i. edge i bus p) (sym (id_within base (n + 1) (in_reach (n + 1) (omega arith))))

-- ---- the model's words for the graph's
same_append : (g : GraphView) (ns : List Node) → grown.append_all g ns ≡ append_all g ns
same_append g [] = refl
same_append g (x ∷ ns) = same_append (append g x) ns

same_wires : (base : ℕ) (g : GraphView) (ws : List Wire) → connect_all g (map (wire_edge base) ws) ≡ wire_all base g ws
same_wires base g [] = refl
same_wires base g (w ∷ ws) = same_wires base (connect g (id (base + w.from)) (id (base + w.to)) w.port) ws

all_of : {A : Type 0} (q : A → Bool) (l : List A) → ((x : A) → In x l → q x ≡ true) → list_all q l ≡ true
all_of q [] h = refl
all_of q (x ∷ l) h = rw (h x (inl refl)) (all_of q l (λ y i. h y (inr i)))

or_on : (a b : Bool) → b ≡ true → (a || b) ≡ true
or_on true b e = refl
or_on false b e = e

new_id : (next n k : ℕ) → k < n → is_new next n (id (next + k)) ≡ true
new_id next n k h =
    let low : next ≤ next + k = omega arith in
    let same : next + k - next ≡ k = omega arith in
    rw (le-leb _ _ low, same) (lt-ltb _ _ h)

-- ---- room for a fade
module _ (v : Voice) (g : GraphView) (sound : Sound g.nodes g.edges g.next) (e : Edge) (i : In e g.edges) (places : length g.nodes + 1 ≤ 512) (wires : length g.edges + 2 ≤ 1024) (ids : g.next + 1 ≤ 4294967296) where
  fade_fits : fits g (fade_node v.id ∷ []) (edge e.from (id g.next) 0 ∷ []) (edge (id g.next) e.to e.port) ≡ true
  fade_fits =
      let a : 1 ≤ 512 - length g.nodes = omega arith in
      let b : 1 ≤ 4294967296 - g.next = omega arith in
      let c : 2 ≤ 1024 - length g.edges = omega arith in
      let s : g.next ≤ g.next = omega arith in
      let z : g.next - g.next ≡ 0 = omega arith in
      rw (le-leb _ _ a, le-leb _ _ b, le-leb _ _ c, le-leb _ _ s, z, or_on (leb g.next e.from.0 && ltb (e.from.0 - g.next) 1) _ (sound.ends e i).0) (sound.ends e i).1

  pub fade_is : e.from ≡ feeder v → e.to ≡ v.bus → with_all g (fade_node v.id ∷ []) (edge e.from (id g.next) 0 ∷ []) (edge (id g.next) e.to e.port) ≡ fade_graph v e.port g
  fade_is from to =
      ap (λ b. cond b (grown g (fade_node v.id ∷ []) (edge e.from (id g.next) 0 ∷ []) (edge (id g.next) e.to e.port)) g) fade_fits
      ∙ ap (λ k. connect (connect (append g (fade_node v.id)) k (id g.next) 0) (id g.next) e.to e.port) from
      ∙ ap (λ k. connect (connect (append g (fade_node v.id)) (feeder v) (id g.next) 0) (id g.next) k e.port) to

-- ---- room for a voice
module _ (w : VoiceId) (d : SynthDef) (pan : Bool) (bus : NodeId) (p : ℕ) (g : GraphView) (ok : allowed d ≡ true)
    (places : length g.nodes + d.nodes.count + 2 ≤ 512) (wires : length g.edges + d.edges.count + 3 ≤ 1024) (ids : g.next + d.nodes.count + 2 ≤ 4294967296) (alive : Lives g.nodes bus) where
  abbrev m : ℕ
  m = length (node_rows d.nodes)

  abbrev ns : List Node
  ns = voice_nodes w d pan

  abbrev inner : List Edge
  inner = map (wire_edge g.next) (voice_wires d pan)

  abbrev outer : Edge
  outer = edge (id (g.next + voice_out d pan)) bus p

  small : m ≤ d.nodes.count
  small = rows_few 24 d.nodes.count d.nodes.rows

  many : length ns ≡ m + length (cond pan (const_node w ∷ pan_node w ∷ []) [])
  many = length-append (map (def_node w) (node_rows d.nodes)) (cond pan (const_node w ∷ pan_node w ∷ []) []) ∙ ap (λ k. k + length (cond pan (const_node w ∷ pan_node w ∷ []) [])) (length-map (node_rows d.nodes) (def_node w))

  own : length (map def_wire (counted (edge_rows d.edges))) ≤ d.edges.count
  own = omega (arith, length-map (counted (edge_rows d.edges)) def_wire, length_counted (edge_rows d.edges), rows_few 48 d.edges.count d.edges.rows)

  -- each wire joins nodes of the voice, and its output is one of them
  panned : pan ≡ true → length ns ≡ m + 2
  panned e = many ∙ ap (λ b. m + length (cond b (const_node w ∷ pan_node w ∷ []) [])) e

  most : length ns ≤ m + 2
  most = omega (arith, many, go pan)
    where
      go : (b : Bool) → length (cond b (const_node w ∷ pan_node w ∷ []) []) ≤ 2
      go true = omega arith
      go false = omega arith

  few_wires : length inner ≤ d.edges.count + 2
  few_wires = omega (arith, length-map (voice_wires d pan) (wire_edge g.next), length-append (map def_wire (counted (edge_rows d.edges))) (cond pan (wire d.output (m + 1) 0 ∷ wire m (m + 1) 1 ∷ []) []), own, go pan)
    where
      go : (b : Bool) → length (cond b (wire d.output (m + 1) 0 ∷ wire m (m + 1) 1 ∷ []) []) ≤ 2
      go true = omega arith
      go false = omega arith

  defined : (x : Wire) → In x (map def_wire (counted (edge_rows d.edges))) → (x.from < length ns) × (x.to < length ns)
  defined x i =
      let r = in_map def_wire (counted (edge_rows d.edges)) x i in
      let t = (allowed_within d ok).each_edge r.0 (counted_in (edge_rows d.edges) r.0 r.1) in
      let a : x.from ≡ r.0.from = ap (λ (y : Wire). y.from) r.2 in
      let b : x.to ≡ r.0.to = ap (λ (y : Wire). y.to) r.2 in
      (omega (arith, a, t.source, many), omega (arith, b, t.target, many))

  of_pan : (b : Bool) → pan ≡ b → (x : Wire) → In x (cond b (wire d.output (m + 1) 0 ∷ wire m (m + 1) 1 ∷ []) []) → (x.from < length ns) × (x.to < length ns)
  of_pan false e x i = absurd i
  of_pan true e x (inl s) =
      let a : x.from ≡ d.output = ap (λ (y : Wire). y.from) s in
      let b : x.to ≡ m + 1 = ap (λ (y : Wire). y.to) s in
      (omega (arith, a, (allowed_within d ok).output, panned e), omega (arith, b, panned e))
  of_pan true e x (inr (inl s)) =
      let a : x.from ≡ m = ap (λ (y : Wire). y.from) s in
      let b : x.to ≡ m + 1 = ap (λ (y : Wire). y.to) s in
      (omega (arith, a, panned e), omega (arith, b, panned e))
  of_pan true e x (inr (inr i)) = absurd i

  within : (x : Wire) → In x (voice_wires d pan) → (x.from < length ns) × (x.to < length ns)
  within x i = ⊎_elim (defined x) (of_pan pan refl x) (in_append (map def_wire (counted (edge_rows d.edges))) (cond pan (wire d.output (m + 1) 0 ∷ wire m (m + 1) 1 ∷ []) []) x i)

  out_within : voice_out d pan < length ns
  out_within = go pan refl
    where
      go : (b : Bool) → pan ≡ b → cond b (m + 1) d.output < length ns
      go true e = omega (arith, panned e)
      go false e = omega (arith, (allowed_within d ok).output, many)

  def_ports : (x : Node) → In x (map (def_node w) (node_rows d.nodes)) → few_ports x ≡ true
  def_ports x i =
      let r = in_map (def_node w) (node_rows d.nodes) x i in
      let few : x.ports ≡ r.0.ports = ap (λ (y : Node). y.ports) r.2 in
      le-leb _ _ (omega (arith, few, ((allowed_within d ok).each_node r.0 r.1).ports))

  pan_ports : (b : Bool) (x : Node) → In x (cond b (const_node w ∷ pan_node w ∷ []) []) → few_ports x ≡ true
  pan_ports false x i = absurd i
  pan_ports true x (inl s) = ap few_ports s
  pan_ports true x (inr (inl s)) = ap few_ports s
  pan_ports true x (inr (inr i)) = absurd i

  nodes_fit : list_all few_ports ns ≡ true
  nodes_fit = all_of few_ports ns (λ x i. ⊎_elim (def_ports x) (pan_ports pan x) (in_append (map (def_node w) (node_rows d.nodes)) (cond pan (const_node w ∷ pan_node w ∷ []) []) x i))

  wire_fits : (x : Wire) → In x (voice_wires d pan) → joins_new g.nodes g.next (length ns) (wire_edge g.next x) ≡ true
  wire_fits x i = let r = within x i in rw (new_id g.next (length ns) x.to r.1, new_id g.next (length ns) x.from r.0) refl

  wires_fit : list_all (joins_new g.nodes g.next (length ns)) inner ≡ true
  wires_fit = all_of (joins_new g.nodes g.next (length ns)) inner (λ e i. let r = in_map (wire_edge g.next) (voice_wires d pan) e i in ap (joins_new g.nodes g.next (length ns)) r.2 ∙ wire_fits r.0 r.1)

  pub voice_fits : fits g ns inner outer ≡ true
  voice_fits =
      let a : length ns ≤ 512 - length g.nodes = omega (arith, most, small, places) in
      let b : length ns ≤ 4294967296 - g.next = omega (arith, most, small, ids) in
      let c : length inner + 1 ≤ 1024 - length g.edges = omega (arith, few_wires, wires) in
      rw (le-leb _ _ a, le-leb _ _ b, le-leb _ _ c, nodes_fit, wires_fit, new_id g.next (length ns) (voice_out d pan) out_within) alive

  pub voice_is : with_all g ns inner outer ≡ instantiate_graph w d pan bus p g
  voice_is =
      ap (λ b. cond b (grown g ns inner outer) g) voice_fits
      ∙ ap (λ h. connect h (id (g.next + voice_out d pan)) bus p) (ap (λ h. connect_all h inner) (same_append g ns) ∙ same_wires g.next (append_all g ns) (voice_wires d pan))

-- ---- the bus lives where a port of it is free, and when it has counted the voice too
pub alive_free : (es : List Edge) (ns : List Node) (bus : NodeId) (p : ℕ) → free_port es bus (ports_of (node_at ns bus)) ≡ Some p → Lives ns bus
alive_free es ns bus p e = go (node_at ns bus) e
  where
    go : (o : Option Node) → free_port es bus (ports_of o) ≡ Some p → is_some o ≡ true
    go None h = absurd (none_some h)
    go (Some x) h = refl

pub alive_raised : (ns : List Node) (bus : NodeId) → Lives ns bus → Lives (noise_raised bus ns) bus
alive_raised ns bus h = lives_map (raise_noise bus) (λ x. same x (is_node bus x)) ns bus h
  where
    same : (x : Node) (b : Bool) → id_of (cond b (with_noise (next_noise x.noise) x) x) ≡ id_of x
    same x true = refl
    same x false = refl
