-- Who counts for a new voice.
use Prim.Native.Nat.{ℕ}
use mathlib.Core.Path.{◌≡◌, refl, sym, ap, ◌∙◌}
use mathlib.Core.Logic.{inl, inr}
use mathlib.Core.List.{List, [], ◌∷◌, map}
use Rattle.std.specs.Prelude.{cond, filter}
use mathlib.Core.Bool.{Bool, true, false, false≢true}
use Rattle.std.proofs.lemmas.Bool.{and_from}
use borrow.Author.Tests.{eqb-true, eq-eqb}
use Rattle.lists.proofs.Member.{and_left, and_right}
use Rattle.node.specs.declared.record.NodeId.{NodeId}
use Rattle.voice.specs.declared.policy.BudgetScope.{BudgetScope}
use Rattle.voice.specs.declared.policy.BudgetScope.TheVariants.{Global, PerGroup}
use Rattle.voice.specs.Policy.{counts}
use Rattle.voice.specs.declared.voices.Voice.{Voice}
use Rattle.voice.specs.declared.voices.VoiceState.{VoiceState}
use Rattle.voice.specs.declared.voices.VoiceState.TheVariants.{Tracked, Fading, Loose}
use Rattle.model.specs.SharedState.{SharedState}
use Rattle.voice.specs.Voice.{is_tracked, counted}
use Rattle.model.specs.Voice.{candidate, candidates}
use Rattle.model.specs.Model.{Model}
use Rattle.rules.specs.Policy.{ForBus, Counts, Candidates, AdmissionOn}

tracked : (s : VoiceState) → is_tracked s ≡ true → s ≡ Tracked
tracked Tracked h = refl
tracked (Fading f) h = absurd (false≢true h)
tracked Loose h = absurd (false≢true h)

for_bus : (scope : BudgetScope) (bus : NodeId) (v : Voice) → counts scope v.bus bus ≡ true → ForBus scope bus v
for_bus Global bus v h = tt
for_bus PerGroup bus v h = eqb-true v.bus.0 bus.0 h

bus_for : (scope : BudgetScope) (bus : NodeId) (v : Voice) → ForBus scope bus v → counts scope v.bus bus ≡ true
bus_for Global bus v h = refl
bus_for PerGroup bus v h = eq-eqb v.bus.0 bus.0 h

module _ (scope : BudgetScope) (bus : NodeId) (v : Voice) where
  to : counted scope bus v ≡ true → Counts scope bus v
  to h = (tracked v.state (and_left (is_tracked v.state) (counts scope v.bus bus) h), for_bus scope bus v (and_right (is_tracked v.state) (counts scope v.bus bus) h))

  back : Counts scope bus v → counted scope bus v ≡ true
  back h = and_from (is_tracked v.state) (counts scope v.bus bus) (ap is_tracked h.0) (bus_for scope bus v h.1)

candidate_rows : (d : SharedState) (bus : NodeId) (vs : List Voice) → Candidates d bus vs (candidates d (counted d.config.scope bus) vs)
candidate_rows d bus [] = refl
candidate_rows d bus (v ∷ vs) = go (counted d.config.scope bus v) refl (candidate_rows d bus vs)
  where
    off : counted d.config.scope bus v ≡ false → Counts d.config.scope bus v → ⊥
    off e h = false≢true (sym e ∙ back d.config.scope bus v h)

    go : (b : Bool) → counted d.config.scope bus v ≡ b → Candidates d bus vs (candidates d (counted d.config.scope bus) vs)
        → Candidates d bus (v ∷ vs) (map (candidate d) (cond b (v ∷ filter (counted d.config.scope bus) vs) (filter (counted d.config.scope bus) vs)))
    go true e ih = inl (to d.config.scope bus v e, (candidates d (counted d.config.scope bus) vs, ih, refl))
    go false e ih = inr (off e, ih)

pub admission_counts : (m : Model) (bus : NodeId) (r : ℕ) → AdmissionOn m bus r
admission_counts m bus r = (candidates m.shared (counted m.shared.config.scope bus) m.voices, candidate_rows m.shared bus m.voices, refl)
