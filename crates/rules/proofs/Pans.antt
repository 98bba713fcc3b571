-- Who is panned, and with which nodes.
use Prim.Native.Nat.{ℕ, ◌+◌, ◌*◌}
use native.Mathlib.Omega.{arith}
use mathlib.Core.Path.{◌≡◌, refl, sym, ap, ◌∙◌}
use mathlib.Core.List.{List, [], ◌∷◌, ◌++◌, map, append_assoc, append-nil}
use mathlib.Core.Bool.{Bool, true, false, not, beq, ◌&&◌, ◌||◌}
use lib.Dec.{eqb}
use lib.Ieee.{Float, nan, inf, fin, up, down, eq}
use borrow.Author.Tests.{eqb-true, eq-eqb}
use Rattle.node.specs.declared.record.Node.{Node}
use Rattle.graph.specs.View.{GraphView}
use Rattle.graph.specs.Node.{with_id, noise_raised}
use Rattle.graph.specs.Change as change
use Rattle.synthdef.specs.Tables.{node_rows, edge_rows}
use Rattle.synthdef.specs.Edges.{counted}
use Rattle.voice.specs.declared.voices.VoiceState.{VoiceState}
use Rattle.model.specs.SharedState.{SharedState}
use Rattle.voice.specs.Voice.{id}
use Rattle.model.specs.Spawn.{Spawn, Wire, pans, voice_nodes, voice_wires, append_all, wire_all, raised, next_voice, instantiate_shared, def_wire, voice_out}
use Rattle.rules.specs.Sound.{IsZero, own_node, numbered, PanLaw, PanWires}

zero_middle : (x : Float) → IsZero x → pans x ≡ false
unfolding eq
zero_middle nan z = absurd z.1
zero_middle (inf s) z = absurd z.1
zero_middle (fin s m e) z =
    let none : m * up e * 1 ≡ 0 = omega (arith, z.1.1) in
    ap (λ b. not (b && (beq s false || eqb (m * up e * 1) 0))) (eq-eqb (m * up e * 1) (0 * down e) z.1.1)
    ∙ ap (λ b. not (beq s false || b)) (eq-eqb (m * up e * 1) 0 none)
    ∙ either (beq s false)
  where
    either : (b : Bool) → not (b || true) ≡ false
    either true = refl
    either false = refl

other_pans : (x : Float) → (IsZero x → ⊥) → pans x ≡ true
unfolding eq
other_pans nan z = refl
other_pans (inf s) z = refl
other_pans (fin s m e) z = go (eqb (m * up e * 1) (0 * down e)) refl
  where
    go : (b : Bool) → eqb (m * up e * 1) (0 * down e) ≡ b → not (b && (beq s false || eqb (m * up e * 1) 0)) ≡ true
    go true h = absurd (z (s, (refl, eqb-true (m * up e * 1) (0 * down e) h)))
    go false h = refl

appended : (xs : List Node) (g : GraphView) → (append_all g xs).nodes ≡ g.nodes ++ numbered g.next xs
appended [] g = sym (append-nil g.nodes)
appended (x ∷ xs) g = appended xs (change.append g x) ∙ append_assoc g.nodes (with_id g.next x ∷ []) (numbered (g.next + 1) xs)

wired : (base : ℕ) (ws : List Wire) (g : GraphView) → (wire_all base g ws).nodes ≡ g.nodes
wired base [] g = refl
wired base (w ∷ ws) g = wired base ws (change.connect g (id (base + w.from)) (id (base + w.to)) w.port)

module _ (x : Spawn) (s : VoiceState) (p : ℕ) (d : SharedState) where
  nodes_of : Bool → List Node
  nodes_of b = noise_raised x.bus d.graph.nodes ++ numbered d.graph.next (voice_nodes (next_voice d) x.def b)

  put : (instantiate_shared x p d).graph.nodes ≡ nodes_of (pans x.pan)
  unfolding nodes_of
  put =
      let g = append_all (raised x.bus d.graph) (voice_nodes (next_voice d) x.def (pans x.pan)) in
      wired d.graph.next (voice_wires x.def (pans x.pan)) g ∙ appended (voice_nodes (next_voice d) x.def (pans x.pan)) (raised x.bus d.graph)

  pub pan_law : PanLaw x s p d
  unfolding nodes_of
  pan_law = record {
    middle = λ z. (
      zero_middle x.pan z,
      put ∙ ap nodes_of (zero_middle x.pan z)
          ∙ ap (λ l. noise_raised x.bus d.graph.nodes ++ numbered d.graph.next l) (append-nil (map (own_node (next_voice d)) (node_rows x.def.nodes))),
    );
    panned = λ z. (other_pans x.pan z, put ∙ ap nodes_of (other_pans x.pan z));
  }

pub pan_wires : (x : Spawn) → PanWires x
pan_wires x = record {
  middle = λ z. (
    ap (voice_wires x.def) (zero_middle x.pan z) ∙ append-nil (map def_wire (counted (edge_rows x.def.edges))),
    ap (voice_out x.def) (zero_middle x.pan z),
  );
  panned = λ z. (ap (voice_wires x.def) (other_pans x.pan z), ap (voice_out x.def) (other_pans x.pan z));
}
