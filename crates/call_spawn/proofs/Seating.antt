-- The store with the new voice, by the parts that the code computes.
use Rattle.std.specs.Prelude.{Result}
use Rattle.node.specs.declared.refusal.Refusal.{Refusal}
use Rattle.node.specs.declared.record.VoiceId.{VoiceId}
use Prim.Native.Nat.{ℕ, ◌+◌, ◌≤◌}
use native.Mathlib.Omega.{arith}
use mathlib.Core.Path.{◌≡◌, ap, ◌∙◌}
use mathlib.Core.Bool.{Bool}
use mathlib.Core.List.{List, ◌∷◌, [], ◌++◌}
use lib.ListN.{length, length-map}
use borrow.Author.Tests.{lt-ltb}
use Rattle.node.specs.declared.record.Node.{Node}
use Rattle.graph.specs.Node.{raise_noise, noise_raised}
use Rattle.graph.specs.Change.{with_nodes}
use Rattle.voice.specs.declared.voices.Voice.{Voice}
use Rattle.voice.specs.declared.voices.VoiceState.{VoiceState}
use Rattle.voice_rows.specs.Listed.{pushed_voice}
use Rattle.model.specs.SharedState.{with_spawned}
use Rattle.model.specs.Spawn.{Spawn, pans, next_voice, new_voice, instantiate_graph, raised}
use Rattle.model.specs.Model.{Model, SpawnResult, instantiate}
use Rattle.voice_graph.specs.Added.{with_voice, regraphed}
use Rattle.voice_graph.proofs.Room.{voice_room}
use Rattle.call_spawn.specs.Room.{Headroom}

-- ---- the store
-- these voices, so many voice ids given out
abbrev pub seated : List Voice → ℕ → Model → Model
seated vs given m = record { shared = with_spawned given m.shared; voices = vs }

module _ (x : Spawn) (s : VoiceState) (p : ℕ) (m : Model) (room : Headroom x.def m) where
  -- the bus counts first, then the nodes and edges of the voice stand in the graph
  pub seats : (ns : List Node) → ns ≡ noise_raised x.bus m.shared.graph.nodes → (grown : Model) (pan : Bool) → pan ≡ pans x.pan
      → grown ≡ regraphed (with_voice (next_voice m.shared) x.def pan x.bus p (with_nodes m.shared.graph ns)) (regraphed (with_nodes m.shared.graph ns) m)
      → (v : Voice) → v ≡ new_voice x s p m.shared → (vs : List Voice) → vs ≡ pushed_voice grown.voices v
      → seated vs (m.shared.spawned + 1) grown ≡ (instantiate x s p m).model
  seats ns is-raised grown pan is-pan is-grown v is-v vs is-vs =
      let d = m.shared in
      let g = raised x.bus d.graph in
      let graph = instantiate_graph (next_voice d) x.def (pans x.pan) x.bus p g in
      let places : length g.nodes + x.def.nodes.count + 2 ≤ 512 = omega (arith, length-map d.graph.nodes (raise_noise x.bus), room.places) in
      let all : grown ≡ regraphed graph m =
      is-grown ∙ ap (λ b. regraphed (with_voice (next_voice d) x.def b x.bus p (with_nodes d.graph ns)) m) is-pan
      ∙ ap (λ l. regraphed (with_voice (next_voice d) x.def (pans x.pan) x.bus p (with_nodes d.graph l)) m) is-raised
      ∙ ap (λ g. regraphed g m) (voice_room (next_voice d) x.def (pans x.pan) x.bus p g room.within places room.wires room.ids) in
      let seat : pushed_voice m.voices v ≡ m.voices ++ (v ∷ []) = rw (lt-ltb (length m.voices) 64 room.seats) in
      ap (λ l. seated l (d.spawned + 1) grown) (is-vs ∙ ap (λ k. pushed_voice k.voices v) all ∙ seat ∙ ap (λ k. m.voices ++ (k ∷ [])) is-v)
      ∙ ap (λ k. seated (m.voices ++ (new_voice x s p d ∷ [])) (d.spawned + 1) k) all

abbrev pub spawned_in : Result VoiceId Refusal → Model → SpawnResult
spawned_in a m = record { answer = a; model = m }
