-- The spawn, managed or not, by its tests.
use Prim.Native.Nat.{ℕ}
use native.Mathlib.Omega.{arith}
use mathlib.Core.Path.{◌≡◌, refl, sym, ap, ◌∙◌}
use mathlib.Core.Bool.{Bool, true, false, cond}
use Rattle.std.specs.Prelude.{Option, None, Some, find}
use Rattle.node.specs.declared.record.VoiceId.{VoiceId}
use Rattle.node.specs.declared.refusal.Refusal.{Refusal}
use Rattle.node.specs.declared.refusal.Refusal.TheVariants.{Rejected}
use Rattle.edges.specs.Ports.{port_from}
use Rattle.voice.specs.declared.policy.Admission.{Admission}
use Rattle.voice.specs.declared.policy.Admission.TheVariants as admission
use Rattle.voice.specs.declared.voices.Voice.{Voice}
use Rattle.voice.specs.declared.voices.VoiceState.TheVariants.{Loose}
use Rattle.model.specs.Refuse.{spawn_refusal}
use Rattle.voice.specs.Voice.{is_voice, feeder}
use Rattle.model.specs.Spawn.{Spawn}
use Rattle.model.specs.Model.{Model, SpawnResult, place, place_within_budget, refused, stolen, steal_then, admitted, admission_on, unless, spawn_managed, spawn_loose}
use Rattle.model.specs.Call.{step}
use Rattle.model.specs.Call as call
use Rattle.engine.specs.Spawning.{budget_for, admission_under, place_under, steal_found, steal}
use Rattle.engine.proofs.Placing.{step_of}

module _ (x : Spawn) (m : Model) where
  abbrev tested : Option Refusal
  tested = spawn_refusal m.shared m.voices x.def x.bus x.rank

  -- what it meets: an unmanaged one is always admitted
  abbrev met : Bool → Admission
  met t = admission_under (budget_for t m.shared.config.budget) x.bus x.rank m

  abbrev pub spawn_for : Bool → SpawnResult
  spawn_for t = cond t (spawn_managed x m) (spawn_loose x m)

  pub spawn_step : (t : Bool) → step_of (spawn_for t) ≡ step (cond t (call.spawn_managed x) (call.spawn_loose x)) m
  spawn_step true = refl
  spawn_step false = refl

  pub spawn_not : (t : Bool) (r : Refusal) → tested ≡ Some r → refused r m ≡ spawn_for t
  spawn_not true r e = sym (ap (λ o. unless o m (admitted (admission_on x.bus x.rank m) x m)) e)
  spawn_not false r e = sym (ap (λ o. unless o m (place 0 x Loose m)) e)

  managed_on : tested ≡ None → (a : Admission) → a ≡ met true → admitted a x m ≡ spawn_managed x m
  managed_on e a is = ap (λ k. admitted k x m) is ∙ sym (ap (λ o. unless o m (admitted (admission_on x.bus x.rank m) x m)) e)

  pub spawn_rejected : (t : Bool) → tested ≡ None → admission.Reject ≡ met t → refused Rejected m ≡ spawn_for t
  spawn_rejected true e is = managed_on e admission.Reject is
  spawn_rejected false e is = let z : ◌≡◌ {A = ℕ} 0 1 = cc in absurd (omega arith)

  pub spawn_admitted : (t : Bool) → tested ≡ None → admission.Admit ≡ met t → place_under (budget_for t m.shared.config.budget) x m ≡ spawn_for t
  spawn_admitted true e is = managed_on e admission.Admit is
  spawn_admitted false e is = sym (ap (λ o. unless o m (place 0 x Loose m)) e)

  -- a steal leaves the store's budget
  under_stolen : (o : Option Voice) → place_under m.shared.config.budget x (steal_found o m) ≡ steal_then o x m
  under_stolen None = refl
  under_stolen (Some v) = go (port_from m.shared.graph.edges (feeder v) v.bus)
    where
      go : (p : Option ℕ) → place_under m.shared.config.budget x (stolen v p m) ≡ place_within_budget x (stolen v p m)
      go None = refl
      go (Some q) = refl

  pub spawn_stolen : (t : Bool) (place : ℕ) (w : VoiceId) → tested ≡ None → admission.Steal place w ≡ met t → place_under (budget_for t m.shared.config.budget) x (steal w m) ≡ spawn_for t
  spawn_stolen true place w e is = under_stolen (find (is_voice w) m.voices) ∙ managed_on e (admission.Steal place w) is
  spawn_stolen false place w e is = let z : ◌≡◌ {A = ℕ} 0 1 = cc in absurd (omega arith)
