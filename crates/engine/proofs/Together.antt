-- Voices that go one after the other go together.
use mathlib.Core.Path.{◌≡◌, refl, sym, ap, ◌∙◌}
use mathlib.Core.List.{List, [], ◌∷◌}
use mathlib.Core.Bool.{Bool, true, false, not, or-false, true≢false}
use lib.Dec.{eqb}
use lib.ListN.{length}
use Rattle.std.specs.Prelude.{filter}
use Rattle.lists.proofs.Member.{neither}
use Rattle.lists.proofs.Filter.{filter_filter, filter_same}
use Rattle.node.specs.declared.record.VoiceId.{VoiceId}
use Rattle.graph.specs.Node.{owned_by, owned_by_some}
use Rattle.graph.specs.Change.{without}
use Rattle.graph.specs.View.{GraphView}
use Rattle.graph.proofs.Together.{without_together, without_same}
use Rattle.voice.specs.declared.voices.Voice.{Voice}
use Rattle.voice.specs.Voice.{is_voice}
use Rattle.voice.specs.Voices.{is_any_of}
use Rattle.model.specs.SharedState.{SharedState, with_graph}
use Rattle.model.specs.Model.{Model, without_voice}
use Rattle.engine.specs.Freed.{without_each}

abbrev remade : SharedState → GraphView → List Voice → Model
remade d g vs = record { shared = with_graph g d; voices = vs }

remade_same : (d : SharedState) (g h : GraphView) (vs ws : List Voice) → g ≡ h → vs ≡ ws → remade d g vs ≡ remade d h ws
remade_same d g h vs ws e f = ap (λ x. remade d x vs) e ∙ ap (λ x. remade d h x) f

abbrev pub together : List VoiceId → Model → Model
together ids m = remade m.shared (without (owned_by_some ids) m.shared.graph) (filter (λ v. not (is_any_of ids v)) m.voices)

module _ (w : VoiceId) (m : Model) where
  one : without_voice w m ≡ together (w ∷ []) m
  one =
      remade_same m.shared _ _ _ _
      (without_same (owned_by w) (owned_by_some (w ∷ [])) (λ n. sym (or-false (owned_by w n))) m.shared.graph)
      (filter_same (λ v. not (is_voice w v)) (λ v. not (is_any_of (w ∷ []) v)) m.voices (λ v i. ap not (sym (or-false (is_voice w v)))))

  then : (ids : List VoiceId) → together ids (without_voice w m) ≡ together (w ∷ ids) m
  then ids =
      remade_same m.shared _ _ _ _
      (without_together (owned_by w) (owned_by_some ids) m.shared.graph)
      (filter_filter (λ v. not (is_any_of ids v)) (λ v. not (is_voice w v)) m.voices
      ∙ filter_same _ _ m.voices (λ v i. neither (is_voice w v) (is_any_of ids v)))

each_together : (w : VoiceId) (ids : List VoiceId) (m : Model) → without_each (w ∷ ids) m ≡ together (w ∷ ids) m
each_together w [] m = one w m
each_together w (x ∷ ids) m = each_together x ids (without_voice w m) ∙ then w m (x ∷ ids)

pub all_gone : (ids : List VoiceId) (m : Model) → eqb (length ids) 0 ≡ false → together ids m ≡ without_each ids m
all_gone [] m h = absurd (true≢false h)
all_gone (w ∷ ids) m h = sym (each_together w ids m)
