-- The steal of a victim.
use Prim.Native.Nat.{ℕ}
use mathlib.Core.Path.{◌≡◌, sym, ap, ◌∙◌}
use mathlib.Core.List.{List, map}
use mathlib.Core.Bool.{true, false}
use Rattle.std.specs.Prelude.{Option, None, Some, find, option_map}
use lib.Dec.{eqb}
use borrow.Author.Tests.{eqb-true}
use Rattle.lists.proofs.Member.{and_left, and_right}
use Rattle.lists.proofs.Find.{find_in}
use Rattle.node.specs.declared.record.NodeId.{NodeId}
use Rattle.node.specs.declared.record.VoiceId.{VoiceId}
use Rattle.node.specs.declared.record.Edge.{Edge}
use Rattle.edges.specs.Ports.{feeds}
use Rattle.voice.specs.declared.voices.Fade.{Fade}
use Rattle.voice.specs.declared.voices.Voice.{Voice}
use Rattle.voice.specs.declared.voices.VoiceState.TheVariants.{Tracked}
use Rattle.voice.specs.Voice.{id, is_voice, feeder, begin_fade}
use Rattle.model.specs.Spawn.{recorded, fade_of, fade_graph}
use Rattle.model.specs.Model.{Model, without_voice, fade, cut_off, stolen, steal_voice}
use Rattle.voice_graph.specs.Added.{with_fade, regraphed}
use Rattle.voice_graph.proofs.Room.{fade_room}
use Rattle.bus_room.specs.Reclaimed.{restolen}
use Rattle.call_spawn.specs.Room.{FadeRoom}

-- other voices
abbrev pub revoiced : List Voice → Model → Model
revoiced vs m = record { shared = m.shared; voices = vs }

-- ---- a fade: its record, then its node and edges, then the voice's state
module _ (v : Voice) (p : ℕ) (m told grown : Model) (room : FadeRoom m) where
  pub fades : told ≡ restolen (recorded v false m.shared) m → (w : VoiceId) (from bus : NodeId) → w ≡ v.id → from ≡ feeder v → bus ≡ v.bus
      → grown ≡ regraphed (with_fade w from bus p told.shared.graph) told → (f : Fade) → f ≡ fade_of m.shared
      → (vs : List Voice) → vs ≡ map (begin_fade w f) grown.voices → revoiced vs grown ≡ fade v p m
  fades is-told w from bus is-w is-from is-bus is-grown f is_f vs is-vs =
      let end = restolen (recorded v false m.shared) m in
      let graph : with_fade w from bus p m.shared.graph ≡ fade_graph v p m.shared.graph =
      ap (λ k. with_fade k from bus p m.shared.graph) is-w ∙ ap (λ k. with_fade v.id k bus p m.shared.graph) is-from ∙ ap (λ k. with_fade v.id (feeder v) k p m.shared.graph) is-bus
      ∙ fade_room v p m.shared.graph room.places room.wires room.ids in
      let all : grown ≡ regraphed (fade_graph v p m.shared.graph) end = is-grown ∙ ap (λ k. regraphed (with_fade w from bus p k.shared.graph) k) is-told ∙ ap (λ g. regraphed g end) graph in
      ap (λ l. revoiced l grown) (is-vs ∙ ap (λ k. map (begin_fade k f) grown.voices) is-w ∙ ap (λ k. map (begin_fade v.id k) grown.voices) is_f)
      ∙ ap (λ k. revoiced (map (begin_fade v.id (fade_of m.shared)) k.voices) k) all

-- ---- one that feeds no port: its record says that it was cut, and it is removed
pub cuts : (v : Voice) (m told : Model) → told ≡ restolen (recorded v true m.shared) m → (w : VoiceId) → w ≡ v.id → without_voice w told ≡ cut_off v Tracked m
cuts v m told is-told w is-w = ap (λ k. without_voice k told) is-w ∙ ap (without_voice v.id) is-told

-- the voice that was looked for
pub found_id : (w : VoiceId) (l : List Voice) (v : Voice) → find (is_voice w) l ≡ Some v → w ≡ v.id
found_id w l v e = ap named (sym (eqb-true v.id.0 w.0 (find_in (is_voice w) l v e).1))
  where
    named : ℕ → VoiceId
    named k = record { 0 = k }

-- ---- which of the two: the edge by which the victim feeds its bus
module _ (v : Voice) (m : Model) (k : ℕ) (bus : NodeId) (at : k ≡ (feeder v).0) (on : bus ≡ v.bus) (r : Option Edge)
    (seen : r ≡ find (feeds (id k) bus) m.shared.graph.edges) where
  looked : find (feeds (feeder v) v.bus) m.shared.graph.edges ≡ r
  looked = ap (λ b. find (feeds (feeder v) b) m.shared.graph.edges) (sym on) ∙ ap (λ j. find (feeds (id j) bus) m.shared.graph.edges) (sym at) ∙ sym seen

  pub feeds_none : r ≡ None → cut_off v Tracked m ≡ steal_voice v m
  feeds_none e = ap (λ (o : Option Edge). stolen v (option_map (λ (e : Edge). e.port) o) m) (sym (looked ∙ e))

  pub feeds_from : (x : Edge) → r ≡ Some x → x.from ≡ feeder v
  feeds_from x e = ap id (eqb-true x.from.0 (feeder v).0 (and_left (eqb x.from.0 (feeder v).0) _ (find_in (feeds (feeder v) v.bus) m.shared.graph.edges x (looked ∙ e)).1))

  pub feeds_to : (x : Edge) → r ≡ Some x → x.to ≡ v.bus
  feeds_to x e = ap id (eqb-true x.to.0 v.bus.0 (and_right (eqb x.from.0 (feeder v).0) _ (find_in (feeds (feeder v) v.bus) m.shared.graph.edges x (looked ∙ e)).1))

  pub feeds_one : (x : Edge) → r ≡ Some x → fade v x.port m ≡ steal_voice v m
  feeds_one x e = ap (λ (o : Option Edge). stolen v (option_map (λ (e : Edge). e.port) o) m) (sym (looked ∙ e))
