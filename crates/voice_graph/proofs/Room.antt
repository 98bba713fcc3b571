-- Where there is room, what is put into the graph is what the model says. A new voice of n nodes and e edges needs n + 2 nodes,
-- e + 3 edges and n + 2 ids; a fade needs one node, two edges and one id, and leaves one node, one edge and one id fewer: its
-- edge to the bus replaces the feeder's. Together these are the headroom of a spawn.
use Prim.Native.Nat.{ℕ, ◌+◌, ◌≤◌, ◌<◌, min}
use native.Mathlib.Omega.{arith}
use mathlib.Core.Path.{◌≡◌, refl, sym, ap, ◌∙◌}
use mathlib.Core.Logic.{inl, inr}
use mathlib.Core.List.{List, [], ◌∷◌, ◌++◌, map, append-nil, append_assoc}
use Rattle.std.specs.Prelude.{Option, None, Some, filter, find, option_map, is_some}
use mathlib.Core.Bool.{Bool, true, false, not, false≢true}
use lib.Dec.{eqb}
use lib.ListN.{length, length-append, length-map}
use borrow.Author.Tests.{lt-leb, eq-eqb}
use Rattle.std.proofs.lemmas.Bool.{and_from}
use Rattle.std.proofs.lemmas.List.{map-append}
use Rattle.std.proofs.lemmas.List.Elements.{filter-append}
use Rattle.synthdef.proofs.Rows.{rows_few}
use Rattle.model.proofs.Grown.{grown_next, grown_edges, wired_nodes}
use Rattle.lists.specs.Member.{In}
use Rattle.lists.proofs.Member.{and_right, some_inj, none_some}
use Rattle.lists.proofs.Filter.{length_filter}
use Rattle.lists.proofs.Find.{find_in, find_none}
use Rattle.lists.proofs.Count.{count_is_length, count_filter}
use Rattle.node.specs.declared.record.NodeId.{NodeId}
use Rattle.node.specs.declared.record.VoiceId.{VoiceId}
use Rattle.node.specs.declared.record.Node.{Node}
use Rattle.node.specs.declared.record.Edge.{Edge}
use Rattle.edges.specs.Wiring.{ends_at, taken, drop_at, wired, put}
use Rattle.edges.specs.Ports.{feeds, port_from}
use Rattle.edges.proofs.Wiring.{drop_fewer, length_wired}
use Rattle.graph.specs.View.{GraphView}
use Rattle.graph.specs.Node.{with_id}
use Rattle.graph.specs.Change.{append, connect, edge}
use Rattle.graph.proofs.Calls.{same_view}
use Rattle.synthdef.specs.Tables.{node_rows, edge_rows}
use Rattle.synthdef.specs.Edges.{counted}
use Rattle.synthdef.proofs.EdgeLaws.{counted_in, length_counted}
use Rattle.synthdef.specs.Instance.{id_after, live_edges}
use Rattle.synthdef.specs.Limits.{allowed}
use Rattle.synthdef.specs.declared.def.DefEdge.{DefEdge}
use Rattle.synthdef.specs.declared.def.SynthDef.{SynthDef}
use Rattle.synthdef.proofs.Within.{allowed_within}
use Rattle.voice.specs.declared.voices.Voice.{Voice}
use Rattle.voice.specs.Voice.{id, feeder}
use Rattle.model.specs.Spawn.{Wire, wire, def_wire, fade_node, voice_nodes, voice_wires, voice_out, append_all, wire_all, instantiate_graph, fade_graph}
use Rattle.voice_graph.specs.Added.{numbered, put_all, fade_edges, with_fade, voice_edges, with_voice}
use Rattle.voice_graph.proofs.Laws.{has_room_lem, fade_on, voice_on}

-- ---- edges, where all have a place
abbrev wired_all : List Edge → List Edge → List Edge
wired_all es [] = es
wired_all es (e ∷ l) = wired_all (wired es e) l

put_place : (es : List Edge) (e : Edge) → length es < 1024 → put es e ≡ wired es e
put_place es e h = rw (lt-leb 1024 (length es) h)

put_wired : (es l : List Edge) → length es + length l ≤ 1024 → put_all es l ≡ wired_all es l
put_wired es [] h = refl
put_wired es (e ∷ l) h =
    ap (λ z. put_all z l) (put_place es e (omega arith)) ∙ put_wired (wired es e) l (omega (arith, length_wired es e))

-- ---- a fade
module _ (v : Voice) (p : ℕ) (g : GraphView) where
  pub fade_room : length g.nodes + 1 ≤ 512 → length g.edges + 2 ≤ 1024 → g.next + 1 ≤ 4294967296
      → with_fade v.id (feeder v) v.bus p g ≡ fade_graph v p g
  fade_room places wires ids =
      fade_on v.id (feeder v) v.bus p g (has_room_lem (length g.nodes) g.next 1 places ids)
      ∙ same_view _ (fade_graph v p g) refl (put_wired g.edges (fade_edges (id g.next) (feeder v) v.bus p) wires) refl refl refl refl

  pub fade_nodes : length (fade_graph v p g).nodes ≡ length g.nodes + 1
  fade_nodes = length-append g.nodes (with_id g.next (fade_node v.id) ∷ [])

  -- the port that the feeder feeds has an edge, which is replaced
  fed_taken : port_from g.edges (feeder v) v.bus ≡ Some p → taken g.edges v.bus p ≡ true
  fed_taken h = go (find (feeds (feeder v) v.bus) g.edges) refl h
    where
      seen : (d : Edge) → In d g.edges → ends_at v.bus p d ≡ true → (o : Option Edge) → find (ends_at v.bus p) g.edges ≡ o → is_some o ≡ true
      seen d i t None e = absurd (false≢true (sym (find_none (ends_at v.bus p) g.edges d e i) ∙ t))
      seen d i t (Some x) e = refl

      go : (o : Option Edge) → find (feeds (feeder v) v.bus) g.edges ≡ o → option_map (λ (e : Edge). e.port) o ≡ Some p → taken g.edges v.bus p ≡ true
      go None e q = absurd (none_some q)
      go (Some d) e q =
          let r = find_in (feeds (feeder v) v.bus) g.edges d e in
          let to = and_right (eqb d.from.0 (feeder v).0) (eqb d.to.0 v.bus.0) r.1 in
          seen d r.0 (and_from (eqb d.to.0 v.bus.0) (eqb d.port p) to (eq-eqb d.port p (some_inj q))) _ refl

  pub fade_edges_lem : port_from g.edges (feeder v) v.bus ≡ Some p → length (fade_graph v p g).edges ≤ length g.edges + 1
  fade_edges_lem h =
      let es = g.edges in
      let e = edge (feeder v) (id g.next) 0 in
      let off : Edge → Bool = λ d. not (ends_at v.bus p d) in
      let rest = drop_at es (id g.next) 0 in
      omega (
        arith,
        length-append (drop_at (wired es e) v.bus p) (edge (id g.next) v.bus p ∷ []),
        ap length (filter-append off rest (e ∷ [])),
        length-append (filter off rest) (filter off (e ∷ [])),
        length_filter off (e ∷ []),
        count_is_length off rest,
        count_is_length off es,
        count_filter off (λ d. not (ends_at (id g.next) 0 d)) es,
        drop_fewer es v.bus p (fed_taken h),
      )

-- ---- a new voice: its nodes
append_nodes : (ns : List Node) (g : GraphView) → (append_all g ns).nodes ≡ g.nodes ++ numbered g.next ns
append_nodes [] g = sym (append-nil g.nodes)
append_nodes (n ∷ ns) g = append_nodes ns (append g n) ∙ append_assoc g.nodes (with_id g.next n ∷ []) (numbered (g.next + 1) ns)

append_sink : (ns : List Node) (g : GraphView) → (append_all g ns).sink ≡ g.sink
append_sink [] g = refl
append_sink (n ∷ ns) g = append_sink ns (append g n)

append_order : (ns : List Node) (g : GraphView) → (append_all g ns).order ≡ g.order
append_order [] g = refl
append_order (n ∷ ns) g = append_order ns (append g n)

-- its edges
module _ (base : ℕ) where
  abbrev wire_edge : Wire → Edge
  wire_edge w = edge (id (base + w.from)) (id (base + w.to)) w.port

  abbrev one : GraphView → Wire → GraphView
  one g w = connect g (id (base + w.from)) (id (base + w.to)) w.port

  wire_edges : (ws : List Wire) (g : GraphView) → (wire_all base g ws).edges ≡ wired_all g.edges (map wire_edge ws)
  wire_edges [] g = refl
  wire_edges (w ∷ ws) g = wire_edges ws (one g w)

  wire_sink : (ws : List Wire) (g : GraphView) → (wire_all base g ws).sink ≡ g.sink
  wire_sink [] g = refl
  wire_sink (w ∷ ws) g = wire_sink ws (one g w)

  wire_order : (ws : List Wire) (g : GraphView) → (wire_all base g ws).order ≡ g.order
  wire_order [] g = refl
  wire_order (w ∷ ws) g = wire_order ws (one g w)

  wire_next : (ws : List Wire) (g : GraphView) → (wire_all base g ws).next ≡ g.next
  wire_next [] g = refl
  wire_next (w ∷ ws) g = wire_next ws (one g w)

  id_within : (k : ℕ) → base + k < 4294967296 → id_after (id base) k ≡ id (base + k)
  id_within k h = let e : min (base + k) 4294967295 ≡ base + k = omega arith in ap id e

  live_wires : (l : List DefEdge) → ((e : DefEdge) → In e l → (base + e.from < 4294967296) × (base + e.to < 4294967296))
      → map wire_edge (map def_wire l) ≡ live_edges l (id base)
  live_wires [] h = refl
  live_wires (e ∷ l) h =
      let k = h e (inl refl) in
      ap (λ i. edge i (id (base + e.to)) e.port ∷ map wire_edge (map def_wire l)) (sym (id_within e.from k.0))
      ∙ ap (λ i. edge (id_after (id base) e.from) i e.port ∷ map wire_edge (map def_wire l)) (sym (id_within e.to k.1))
      ∙ ap (λ z. edge (id_after (id base) e.from) (id_after (id base) e.to) e.port ∷ z) (live_wires l (λ x i. h x (inr i)))

wired_append : (es l m : List Edge) → wired_all es (l ++ m) ≡ wired_all (wired_all es l) m
wired_append es [] m = refl
wired_append es (e ∷ l) m = wired_append (wired es e) l m

module _ (d : SynthDef) (ok : allowed d ≡ true) (base : ℕ) (ids : base + d.nodes.count + 2 ≤ 4294967296) where
  abbrev n : ℕ
  n = length (node_rows d.nodes)

  few : n ≤ d.nodes.count
  few = rows_few 24 d.nodes.count d.nodes.rows

  in_reach : (k : ℕ) → k < n + 2 → base + k < 4294967296
  in_reach k h = omega (arith, few, ids, h)

  own_wires : map (wire_edge base) (map def_wire (counted (edge_rows d.edges))) ≡ live_edges (counted (edge_rows d.edges)) (id base)
  own_wires =
      live_wires base (counted (edge_rows d.edges))
      (λ e i.
      let t = (allowed_within d ok).each_edge e (counted_in (edge_rows d.edges) e i) in
      (in_reach e.from (omega (arith, t.source)), in_reach e.to (omega (arith, t.target))))

  -- the edges of the voice are the model's wires, and the edge to the bus
  all_wires : (pan : Bool) (bus : NodeId) (p : ℕ)
      → map (wire_edge base) (voice_wires d pan) ++ (edge (id (base + voice_out d pan)) bus p ∷ []) ≡ voice_edges (id base) d pan bus p
  all_wires false bus p =
      ap (λ z. map (wire_edge base) z ++ (edge (id (base + d.output)) bus p ∷ [])) (append-nil (map def_wire (counted (edge_rows d.edges))))
      ∙ ap (λ z. z ++ (edge (id (base + d.output)) bus p ∷ [])) own_wires
      ∙ ap (λ i. live_edges (counted (edge_rows d.edges)) (id base) ++ (edge i bus p ∷ [])) (sym (id_within base d.output out))
    where
      out : base + d.output < 4294967296
      out = in_reach d.output (omega (arith, (allowed_within d ok).output))
  all_wires true bus p =
      ap (λ z. z ++ (edge (id (base + (n + 1))) bus p ∷ [])) (map-append (wire_edge base) (map def_wire (counted (edge_rows d.edges))) (wire d.output (n + 1) 0 ∷ wire n (n + 1) 1 ∷ []))
      ∙ append_assoc (map (wire_edge base) (map def_wire (counted (edge_rows d.edges)))) _ _
      ∙ ap (λ z. z ++ tail (id (base + d.output)) (id (base + n)) (id (base + (n + 1)))) own_wires
      ∙ ap (λ i. front ++ tail i (id (base + n)) (id (base + (n + 1)))) (sym (id_within base d.output out))
      ∙ ap (λ i. front ++ tail (id_after (id base) d.output) i (id (base + (n + 1)))) (sym (id_within base n (in_reach n (omega arith))))
      ∙ ap (λ i. front ++ tail (id_after (id base) d.output) (id_after (id base) n) i) (sym (id_within base (n + 1) (in_reach (n + 1) (omega arith))))
    where
      out : base + d.output < 4294967296
      out = in_reach d.output (omega (arith, (allowed_within d ok).output))

      front : List Edge
      front = live_edges (counted (edge_rows d.edges)) (id base)

      tail : NodeId → NodeId → NodeId → List Edge
      tail a k m = edge a m 0 ∷ edge k m 1 ∷ edge m bus p ∷ []

  wires_few : (pan : Bool) (bus : NodeId) (p : ℕ) → length (voice_edges (id base) d pan bus p) ≤ d.edges.count + 3
  wires_few pan bus p = go pan
    where
      own : length (live_edges (counted (edge_rows d.edges)) (id base)) ≤ d.edges.count
      own = omega (arith, length-map (counted (edge_rows d.edges)) (λ e. edge (id_after (id base) e.from) (id_after (id base) e.to) e.port), length_counted (edge_rows d.edges), rows_few 48 d.edges.count d.edges.rows)

      go : (b : Bool) → length (voice_edges (id base) d b bus p) ≤ d.edges.count + 3
      go true = simp length-append (omega (arith, own))
      go false = simp length-append (omega (arith, own))

module _ (w : VoiceId) (d : SynthDef) (pan : Bool) (bus : NodeId) (p : ℕ) (g : GraphView) where
  pub voice_room : allowed d ≡ true → length g.nodes + d.nodes.count + 2 ≤ 512 → length g.edges + d.edges.count + 3 ≤ 1024
      → g.next + d.nodes.count + 2 ≤ 4294967296 → with_voice w d pan bus p g ≡ instantiate_graph w d pan bus p g
  voice_room ok places wires ids =
      let count = length (node_rows d.nodes) in
      let small = rows_few 24 d.nodes.count d.nodes.rows in
      let a : length g.nodes + (count + 2) ≤ 512 = omega (arith, small) in
      let b : g.next + (count + 2) ≤ 4294967296 = omega (arith, small) in
      let ns = voice_nodes w d pan in
      let ws = voice_wires d pan in
      let g₁ = append_all g ns in
      let last = edge (id (g.next + voice_out d pan)) bus p in
      let fit : length g.edges + length (voice_edges (id g.next) d pan bus p) ≤ 1024 = omega (arith, wires_few d ok g.next ids pan bus p) in
      voice_on w d pan bus p g (has_room_lem (length g.nodes) g.next (count + 2) a b)
      ∙ same_view _ (instantiate_graph w d pan bus p g)
      (sym (wired_nodes g.next ws g₁ ∙ append_nodes ns g))
      (put_wired g.edges (voice_edges (id g.next) d pan bus p) fit
      ∙ ap (wired_all g.edges) (sym (all_wires d ok g.next ids pan bus p))
      ∙ wired_append g.edges (map (wire_edge g.next) ws) (last ∷ [])
      ∙ ap (λ z. wired z last) (sym (wire_edges g.next ws g₁ ∙ ap (λ z. wired_all z (map (wire_edge g.next) ws)) (grown_edges ns g))))
      (sym (wire_sink g.next ws g₁ ∙ append_sink ns g))
      refl
      (sym (wire_order g.next ws g₁ ∙ append_order ns g))
      (sym (wire_next g.next ws g₁ ∙ grown_next ns g))
