-- What the calls that add to the graph promise on the lent store, from what the functions that they call promise.
use Prim.Native.Nat.{ℕ, ◌+◌, ◌<◌}
use native.Mathlib.Omega.{arith}
use mathlib.Core.Path.{◌≡◌, refl, sym, ap, ◌∙◌}
use mathlib.Core.List.{List, [], ◌∷◌, ◌++◌}
use mathlib.Core.Bool.{Bool, true, false}
use lib.ListN.{length, take}
use Rattle.words.specs.Place.{Holds}
use Rattle.node.specs.declared.record.NodeId.{NodeId}
use Rattle.node.specs.declared.record.VoiceId.{VoiceId}
use Rattle.node.specs.declared.record.Node.{Node}
use Rattle.edges.specs.Wiring.{pushed}
use Rattle.edges.proofs.Loops.{pushed_on}
use Rattle.graph.specs.View.{GraphView}
use Rattle.graph.specs.Node.{with_id}
use Rattle.graph.proofs.Calls.{same_view}
use Rattle.graph_rows.specs.Node.{nodes_in}
use Rattle.graph_rows.specs.Edge.{edges_in}
use Rattle.synthdef.specs.Tables.{node_rows}
use Rattle.synthdef.specs.declared.def.SynthDef.{SynthDef}
use Rattle.voice.specs.Voice.{id}
use Rattle.model.specs.Spawn.{fade_node, voice_nodes}
use Rattle.memory.specs.declared.state.State.{State}
use Rattle.memory.specs.View.{Memory, graph_of, model_of}
use Rattle.memory.specs.Lent.{lent_graph}
use Rattle.memory.specs.Parts.{graphed}
use Rattle.voice_graph.specs.Added.{has_room, numbered, put_all, grown, fade_edges, voice_size, voice_edges, with_fade, with_voice, regraphed}
use Rattle.voice_graph.proofs.Laws.{room_is, fade_on, fade_off, voice_on, voice_off, length_voice}

module _ (s : State) (ns es : List ℕ) (m : Memory) where
  abbrev old : GraphView
  old = graph_of (lent_graph s ns es m)

  abbrev Left : GraphView → State → List ℕ → List ℕ → Type 0
  Left g r ns' es' = model_of (lent_graph r ns' es' m) ≡ regraphed g (model_of (lent_graph s ns es m))

  -- more nodes and other edges
  grows : (more : List Node) (ns' es' : List ℕ) (n e next : ℕ) (r : State) → r ≡ graphed s n e s.sink next
      → take n (nodes_in ns') ≡ old.nodes ++ numbered s.next more → next ≡ s.next + length more → Left (grown old more (take e (edges_in es'))) r ns' es'
  grows more ns' es' n e next r left is-nodes is-next =
      ap (λ u. model_of (lent_graph u ns' es' m)) left
      ∙ ap (λ g. regraphed g (model_of (lent_graph s ns es m))) (same_view (graph_of (lent_graph (graphed s n e s.sink next) ns' es' m)) (grown old more (take e (edges_in es'))) is-nodes refl refl refl refl is-next)

  -- ---- a fade
  module _ (w : VoiceId) (from bus : NodeId) (p : ℕ) where
    pub fade_stays : has_room (length old.nodes) s.next 1 ≡ false → Left (with_fade w from bus p old) s ns es
    fade_stays off = ap (λ g. regraphed g (model_of (lent_graph s ns es m))) (sym (fade_off w from bus p old off))

    pub fade_grows : has_room (length old.nodes) s.next 1 ≡ true → (row : Node) → row ≡ with_id s.next (fade_node w)
        → (ns' es' : List ℕ) (n e : ℕ) (r : State) → r ≡ graphed s n e s.sink (s.next + 1) → Holds (nodes_in ns') n (pushed 512 old.nodes row)
        → take e (edges_in es') ≡ put_all old.edges (fade_edges (id s.next) from bus p) → Left (with_fade w from bus p old) r ns' es'
    fade_grows is row is_row ns' es' n e r left held wired =
        let room = room_is (length old.nodes) s.next 1 is in
        let place : length old.nodes < 512 = omega (arith, room.0) in
        grows (fade_node w ∷ []) ns' es' n e (s.next + 1) r left (held.is ∙ pushed_on 512 old.nodes row place ∙ ap (λ x. old.nodes ++ (x ∷ [])) is_row) refl
        ∙ ap (λ l. regraphed (grown old (fade_node w ∷ []) l) (model_of (lent_graph s ns es m))) wired
        ∙ ap (λ g. regraphed g (model_of (lent_graph s ns es m))) (sym (fade_on w from bus p old is))

  -- ---- a new voice
  module _ (w : VoiceId) (d : SynthDef) (pan : Bool) (bus : NodeId) (p : ℕ) where
    pub voice_stays : has_room (length old.nodes) s.next (length (node_rows d.nodes) + 2) ≡ false → Left (with_voice w d pan bus p old) s ns es
    voice_stays off = ap (λ g. regraphed g (model_of (lent_graph s ns es m))) (sym (voice_off w d pan bus p old off))

    pub voice_grows : has_room (length old.nodes) s.next (length (node_rows d.nodes) + 2) ≡ true
        → (ns' es' : List ℕ) (n e next : ℕ) (r : State) → r ≡ graphed s n e s.sink next → next ≡ s.next + voice_size (length (node_rows d.nodes)) pan
        → Holds (nodes_in ns') n (old.nodes ++ numbered s.next (voice_nodes w d pan)) → Holds (edges_in es') e (put_all old.edges (voice_edges (id s.next) d pan bus p))
        → Left (with_voice w d pan bus p old) r ns' es'
    voice_grows is ns' es' n e next r left size held wired =
        grows (voice_nodes w d pan) ns' es' n e next r left held.is (size ∙ ap (λ k. s.next + k) (sym (length_voice w d pan)))
        ∙ ap (λ l. regraphed (grown old (voice_nodes w d pan) l) (model_of (lent_graph s ns es m))) wired.is
        ∙ ap (λ g. regraphed g (model_of (lent_graph s ns es m))) (sym (voice_on w d pan bus p old is))
