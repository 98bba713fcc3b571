-- The new voice of an allowed definition: its nodes are its own, its wires join them, and one of them feeds the bus.
use Prim.Native.Nat.{ℕ, ◌+◌, ◌<◌}
use native.Mathlib.Omega.{arith}
use native.Mathlib.Nat.{zero-add}
use mathlib.Core.Path.{◌≡◌, refl, sym, ap, ◌∙◌, subst}
use mathlib.Core.Logic.{inl, inr, ⊎_elim}
use mathlib.Core.List.{List, [], ◌∷◌, ◌++◌, map}
use mathlib.Core.Bool.{Bool, true, false, cond, ◌&&◌}
use lib.Dec.{ltb}
use lib.ListN.{length, length-map, length-append}
use borrow.Author.Tests.{ltb-true}
use Rattle.lists.specs.Member.{In}
use Rattle.lists.proofs.Member.{and_left, and_right, in_append, in_map}
use Rattle.node.specs.declared.record.NodeId.{NodeId}
use Rattle.node.specs.declared.record.VoiceId.{VoiceId}
use Rattle.node.specs.declared.record.Node.{Node}
use Rattle.graph.specs.View.{GraphView}
use Rattle.synthdef.specs.Tables.{node_rows, edge_rows, param_rows}
use Rattle.synthdef.specs.Rows.{every}
use Rattle.synthdef.proofs.Rows.{every_in}
use Rattle.synthdef.specs.Edges.{counted}
use Rattle.synthdef.proofs.EdgeLaws.{counted_in}
use Rattle.synthdef.specs.Limits.{allowed, counts_allowed, node_allowed, edge_allowed, param_allowed, ordered}
use Rattle.synthdef.specs.declared.def.DefEdge.{DefEdge}
use Rattle.synthdef.specs.declared.def.SynthDef.{SynthDef}
use Rattle.voice.specs.declared.voices.Voice.{Voice}
use Rattle.voice.specs.declared.voices.VoiceState.{VoiceState}
use Rattle.model.specs.SharedState.{SharedState}
use Rattle.voice.specs.Voice.{id, feeder, end_of}
use Rattle.model.specs.Spawn.{Wire, wire, def_node, def_wire, const_node, pan_node, voice_nodes, voice_wires, voice_out, append_all, wire_all, instantiate_graph, new_voice, Spawn, pans}
use Rattle.ledger.specs.Holder.{Holders, voice, hold}
use Rattle.ledger.proofs.Owner.{ports_at, live_below}
use Rattle.ledger.proofs.Invariant.{Invariant, HostAt, sound_more}
use Rattle.ledger.proofs.Instantiation.{Planted, planted_all, planted_wires, sound_instantiate}

abbrev rows : SynthDef → ℕ
rows def = length (node_rows def.nodes)

-- the constant and the pan node
abbrev extra : Bool → ℕ
extra pan = cond pan 2 0

-- ---- what an allowed definition gives
module _ (def : SynthDef) (ok : allowed def ≡ true) where
  rest₁ : (every (edge_allowed (node_rows def.nodes)) (edge_rows def.edges) && (every (param_allowed (rows def)) (param_rows def.params) && (ltb def.output (rows def) && ordered (rows def) (edge_rows def.edges)))) ≡ true
  rest₁ = and_right (every node_allowed (node_rows def.nodes)) _ (and_right (counts_allowed def.nodes.count def.edges.count def.params.count) _ ok)

  pub output_in : def.output < rows def
  output_in =
      ltb-true _ _ (and_left (ltb def.output (rows def)) _ (and_right (every (param_allowed (rows def)) (param_rows def.params)) _ (and_right (every (edge_allowed (node_rows def.nodes)) (edge_rows def.edges)) _ rest₁)))

  edge_in : (e : DefEdge) → In e (edge_rows def.edges) → (e.from < rows def) × (e.to < rows def)
  edge_in e i =
      let h = every_in (edge_allowed (node_rows def.nodes)) (edge_rows def.edges) e (and_left (every (edge_allowed (node_rows def.nodes)) (edge_rows def.edges)) _ rest₁) i in
      (ltb-true _ _ (and_left (ltb e.from (rows def)) _ h), ltb-true _ _ (and_left (ltb e.to (rows def)) _ (and_right (ltb e.from (rows def)) _ h)))

  pub out_in : (pan : Bool) → voice_out def pan < rows def + extra pan
  out_in true = omega arith
  out_in false = omega (arith, output_in)

  pub wires_in : (pan : Bool) (w : Wire) → In w (voice_wires def pan) → (w.from < rows def + extra pan) × (w.to < rows def + extra pan)
  wires_in pan w i = ⊎_elim inner (λ j. pans pan j) (in_append (map def_wire (counted (edge_rows def.edges))) (cond pan (wire def.output (rows def + 1) 0 ∷ wire (rows def) (rows def + 1) 1 ∷ []) []) w i)
    where
      inner : In w (map def_wire (counted (edge_rows def.edges))) → (w.from < rows def + extra pan) × (w.to < rows def + extra pan)
      inner j =
          let r = in_map def_wire (counted (edge_rows def.edges)) w j in
          let b = edge_in r.0 (counted_in (edge_rows def.edges) r.0 r.1) in
          let f : w.from ≡ r.0.from = ap (λ (z : Wire). z.from) r.2 in
          let t : w.to ≡ r.0.to = ap (λ (z : Wire). z.to) r.2 in
          (omega (arith, b.0), omega (arith, b.1))

      pans : (c : Bool) → In w (cond c (wire def.output (rows def + 1) 0 ∷ wire (rows def) (rows def + 1) 1 ∷ []) []) → (w.from < rows def + extra c) × (w.to < rows def + extra c)
      pans true (inl p) = subst (λ (z : Wire). (z.from < rows def + 2) × (z.to < rows def + 2)) (sym p) (omega (arith, output_in), omega arith)
      pans true (inr (inl p)) = subst (λ (z : Wire). (z.from < rows def + 2) × (z.to < rows def + 2)) (sym p) (omega arith, omega arith)
      pans true (inr (inr j)) = absurd j
      pans false j = absurd j

pub nodes_owned : (k : VoiceId) (def : SynthDef) (pan : Bool) (x : Node) → In x (voice_nodes k def pan) → x.owner.0 ≡ k.0
nodes_owned k def pan x i = ⊎_elim inner (pans pan) (in_append (map (def_node k) (node_rows def.nodes)) (cond pan (const_node k ∷ pan_node k ∷ []) []) x i)
  where
    inner : In x (map (def_node k) (node_rows def.nodes)) → x.owner.0 ≡ k.0
    inner j = ap (λ (z : Node). z.owner.0) (in_map (def_node k) (node_rows def.nodes) x j).2

    pans : (c : Bool) → In x (cond c (const_node k ∷ pan_node k ∷ []) []) → x.owner.0 ≡ k.0
    pans true (inl p) = ap (λ (z : Node). z.owner.0) p
    pans true (inr (inl p)) = ap (λ (z : Node). z.owner.0) p
    pans true (inr (inr j)) = absurd j
    pans false j = absurd j

pub nodes_count : (k : VoiceId) (def : SynthDef) (pan : Bool) → length (voice_nodes k def pan) ≡ rows def + extra pan
nodes_count k def pan = length-append (map (def_node k) (node_rows def.nodes)) (cond pan (const_node k ∷ pan_node k ∷ []) []) ∙ rw (length-map (node_rows def.nodes) (def_node k)) (ap (λ n. rows def + n) (go pan))
  where
    go : (c : Bool) → length (cond c (const_node k ∷ pan_node k ∷ []) []) ≡ extra c
    go true = refl
    go false = refl

-- ---- the new voice
pub feeder_out : (spawn : Spawn) (t : VoiceState) (p : ℕ) (d : SharedState) → (feeder (new_voice spawn t p d)).0 ≡ d.graph.next + voice_out spawn.def (pans spawn.pan)
feeder_out spawn t p d = go (pans spawn.pan)
  where
    go : (b : Bool) → (cond b (id (d.graph.next + rows spawn.def + 1)) (id (d.graph.next + spawn.def.output))).0 ≡ d.graph.next + voice_out spawn.def b
    go true = omega arith
    go false = refl

module _ (def : SynthDef) (ok : allowed def ≡ true) (pan : Bool) (bus : NodeId) (p nv : ℕ) (g : GraphView) (vs : List Voice) (h : Holders)
    (s : Invariant g.nodes g.edges g.next nv vs h) (live : HostAt g.nodes bus.0) (range : p < ports_at g.nodes bus.0) where
  abbrev k : VoiceId
  k = record { 0 = nv + 1 }

  abbrev grown : GraphView
  grown = wire_all g.next (append_all g (voice_nodes k def pan)) (voice_wires def pan)

  planted : Planted g.nodes g.next (nv + 1) 0 vs h g
  planted =
      record {
        sound = sound_more s;
        next = omega arith;
        old = λ n b. (refl, refl);
        mine = λ i b. absurd (omega arith);
        off = λ e i o.
            let z = s.wired.ends e i in
            let b = live_below s.listed e.from.0 (nv + 1) o.1 in
            omega (arith, b.1);
      }

  all_planted : Planted g.nodes g.next (nv + 1) (rows def + extra pan) vs h grown
  all_planted =
      planted_wires (omega arith) (voice_wires def pan) (wires_in def ok pan)
      (subst (λ n. Planted g.nodes g.next (nv + 1) n vs h (append_all g (voice_nodes k def pan))) (zero-add (length (voice_nodes k def pan)) ∙ nodes_count k def pan) (planted_all (voice_nodes k def pan) (nodes_owned k def pan) planted))

  pub sound_new_voice : (v : Voice) → v.id.0 ≡ nv + 1 → v.bus.0 ≡ bus.0 → (feeder v).0 ≡ g.next + voice_out def pan → end_of v ≡ feeder v
      → Invariant (instantiate_graph k def pan bus p g).nodes (instantiate_graph k def pan bus p g).edges (instantiate_graph k def pan bus p g).next (nv + 1) (vs ++ (v ∷ [])) (hold bus p (voice k) h)
  sound_new_voice v vi vb vf ve =
      sound_instantiate all_planted (omega arith) (λ u i. omega (arith, (s.voiced.sung u i).named)) bus live (live_below s.listed bus.0 0 live).0 (voice_out def pan) p (out_in def ok pan) range v vi vb vf ve
