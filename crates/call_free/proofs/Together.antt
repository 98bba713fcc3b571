-- Removing voices one after the other is removing them together.
use Prim.Native.Nat.{ℕ}
use mathlib.Core.Path.{◌≡◌, refl, sym, ap, ◌∙◌}
use mathlib.Core.List.{List, [], ◌∷◌}
use mathlib.Core.Bool.{not}
use lib.ListN.{length}
use Rattle.std.specs.Prelude.{filter}
use Rattle.lists.proofs.Member.{neither}
use Rattle.lists.proofs.Filter.{filter_filter, filter_same}
use Rattle.node.specs.declared.record.VoiceId.{VoiceId}
use Rattle.graph.specs.Node.{owned_by, owned_by_any}
use Rattle.graph.specs.Change.{without}
use Rattle.graph.specs.View.{GraphView}
use Rattle.graph.proofs.Together.{listed_more, listed_one, without_together, without_same}
use Rattle.voice.specs.declared.voices.Voice.{Voice}
use Rattle.model.specs.SharedState.{SharedState, with_graph}
use Rattle.model.specs.Model.{Model, without_voice}
use Rattle.voice.specs.Voice.{is_voice}
use Rattle.voice_rows.specs.Listed.{is_any_of}
use Rattle.call_free.specs.Forgotten.{without_ids}

-- another graph and other voices
abbrev pub remade : SharedState → GraphView → List Voice → Model
remade d g vs = record { shared = with_graph g d; voices = vs }

pub remade_same : (d : SharedState) (g h : GraphView) (vs ws : List Voice) → g ≡ h → vs ≡ ws → remade d g vs ≡ remade d h ws
remade_same d g h vs ws e f = ap (λ x. remade d x vs) e ∙ ap (λ x. remade d h x) f

-- all at once
abbrev pub together : List ℕ → Model → Model
together ids m = remade m.shared (without (owned_by_any ids) m.shared.graph) (filter (λ v. not (is_any_of ids v)) m.voices)

module _ (k : ℕ) (m : Model) where
  abbrev first : VoiceId
  first = record { 0 = k }

  one : without_voice first m ≡ together (k ∷ []) m
  one =
      remade_same m.shared _ _ _ _
      (without_same _ _ (λ n. sym (listed_one k n.owner.0)) m.shared.graph)
      (filter_same _ _ m.voices (λ v i. ap not (sym (listed_one k v.id.0))))

  then : (ids : List ℕ) → together ids (without_voice first m) ≡ together (k ∷ ids) m
  then ids =
      remade_same m.shared _ _ _ _
      (without_together (owned_by first) (owned_by_any ids) m.shared.graph
      ∙ without_same _ _ (λ n. sym (listed_more k n.owner.0 ids)) m.shared.graph)
      (filter_filter (λ v. not (is_any_of ids v)) (λ v. not (is_voice first v)) m.voices
      ∙ filter_same _ _ m.voices (λ v i. neither (is_voice first v) (is_any_of ids v) ∙ ap not (sym (listed_more k v.id.0 ids))))

removed_together : (k : ℕ) (ids : List ℕ) (m : Model) → without_ids (k ∷ ids) m ≡ together (k ∷ ids) m
removed_together k [] m = one k m
removed_together k (j ∷ ids) m = removed_together j ids (without_voice (record { 0 = k }) m) ∙ then k m (j ∷ ids)

pub some_removed : (ids : List ℕ) (m : Model) → (length ids ≡ 0 → ⊥) → together ids m ≡ without_ids ids m
some_removed [] m h = absurd (h refl)
some_removed (k ∷ ids) m h = sym (removed_together k ids m)
