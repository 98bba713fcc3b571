-- A managed spawn taken apart: rejected, admitted, or let in after a steal; and that voices keep distinct ids through every list.
use Prim.Native.Nat.{ℕ, ◌≤◌}
use mathlib.Core.Path.{◌≡◌, refl, sym, ◌∙◌, subst}
use mathlib.Core.List.{List, [], ◌∷◌}
use Rattle.std.specs.Prelude.{Option, None, Some}
use mathlib.Core.Bool.{Bool, true, false, not, cond}
use Rattle.lists.specs.Member.{In}
use Rattle.node.specs.declared.record.VoiceId.{VoiceId}
use Rattle.node.specs.declared.refusal.Refusal.TheVariants.{Rejected}
use Rattle.voice.specs.declared.policy.Admission.{Admission}
use Rattle.voice.specs.declared.policy.Admission.TheVariants as admission
use Rattle.store.specs.declared.config.Config.{Config}
use Rattle.voice.specs.declared.voices.Voice.{Voice}
use Rattle.voice.specs.declared.voices.VoiceState.{VoiceState}
use Rattle.voice.specs.declared.voices.VoiceState.TheVariants.{Fading}
use Rattle.voice.specs.declared.voices.Fade.{Fade}
use Rattle.voice.specs.Voice.{is_voice, with_state, begin_fade, moved, counted}
use Rattle.model.specs.Spawn.{new_voice, state_under, tries, fade_of, Spawn}
use Rattle.model.specs.Call.{Call}
use Rattle.ledger.specs.Ledger.{Ledger, new_ledger, SpawnResult, port_held, cut_off, stolen, steal_voice, place_within_budget, steal_then, refused, admitted, admission_on}
use Rattle.ledger.specs.Render.{one_more}
use Rattle.ledger.specs.Call.{step, run}
use Rattle.ledger.proofs.Ids.{Ids, ids_filter, ids_map, ids_snoc}
use Rattle.ledger.proofs.Victim.{steal_voice_lem}
use Rattle.ledger.proofs.Preserved.{place_kept, Preserves, voices_only, kept_step_lem}

abbrev pub IdsOf : Ledger → Type 0
IdsOf l = Ids l.shared.spawned l.voices

module _ (spawn : Spawn) (R : SpawnResult → Type 0) (l : Ledger) (u : IdsOf l)
    (rejects : admission_on spawn.bus spawn.rank l ≡ admission.Reject → R (refused Rejected l))
    (admits : admission_on spawn.bus spawn.rank l ≡ admission.Admit → R (place_within_budget spawn l)) where
  -- the victim does not outrank the new voice
  pub managed_ranked :
      ((p : ℕ) (w : VoiceId) → admission_on spawn.bus spawn.rank l ≡ admission.Steal p w → (v : Voice) → In v l.voices → counted l.shared.config.scope spawn.bus v ≡ true → v.rank ≤ spawn.rank
      → R (place_within_budget spawn (steal_voice v l))) → R (admitted (admission_on spawn.bus spawn.rank l) spawn l)
  managed_ranked steals = go (admission_on spawn.bus spawn.rank l) refl
    where
      go : (a : Admission) → admission_on spawn.bus spawn.rank l ≡ a → R (admitted a spawn l)
      go admission.Admit e = admits e
      go admission.Reject e = rejects e
      go (admission.Steal p w) e =
          let r = steal_voice_lem u l.shared (counted l.shared.config.scope spawn.bus) l.shared.config.budget l.shared.config.policy spawn.rank p w e in
          subst (λ o. R (steal_then o spawn l)) (sym r.3) (steals p w e r.0 r.1 r.2 r.4)

  pub managed_kept :
      ((p : ℕ) (w : VoiceId) → admission_on spawn.bus spawn.rank l ≡ admission.Steal p w → (v : Voice) → In v l.voices → counted l.shared.config.scope spawn.bus v ≡ true
      → R (place_within_budget spawn (steal_voice v l))) → R (admitted (admission_on spawn.bus spawn.rank l) spawn l)
  managed_kept steals = managed_ranked (λ p w e v i t low. steals p w e v i t)

-- ---- distinct ids
pub begin_id : (w : VoiceId) (f : Fade) (v : Voice) → (begin_fade w f v).id ≡ v.id
begin_id w f v = go (is_voice w v)
  where
    go : (b : Bool) → (cond b (with_state (Fading f) v) v).id ≡ v.id
    go true = refl
    go false = refl

pub ids_steal : (v : Voice) (l : Ledger) → IdsOf l → IdsOf (steal_voice v l)
ids_steal v l u = go (port_held v l)
  where
    go : (o : Option ℕ) → IdsOf (stolen v o l)
    go None = ids_filter (λ x. not (is_voice v.id x)) u
    go (Some p) = ids_map (begin_fade v.id (fade_of l.shared)) (begin_id v.id (fade_of l.shared)) u

pub ids_cut : (v : Voice) (s : VoiceState) (l : Ledger) → IdsOf l → IdsOf (cut_off v s l)
ids_cut v s l u = ids_filter (λ x. not (is_voice v.id x)) u

pub ids_budgeted : (spawn : Spawn) (l : Ledger) → IdsOf l → IdsOf (place_within_budget spawn l).ledger
ids_budgeted spawn l u =
    place_kept spawn (state_under l.shared.config.budget) (λ n l. IdsOf l) (λ r. IdsOf r.ledger)
    (λ n l p e u. ids_snoc (new_voice spawn _ p l.shared) refl u) (λ l e u. u) (λ n l e f u. u) (λ n l v e f u. ids_cut v v.state l u)
    (tries l.shared.config.budget l.voices) l u

pub ids_preserved : Preserves IdsOf
ids_preserved =
    voices_only (λ c b n vs. Ids n vs) (λ c b n vs w u. ids_filter (λ x. not (is_voice w x)) u) (λ c b n vs u. ids_map (moved one_more) (λ v. refl) u) (λ c b n vs v e s h k u. ids_snoc v e u)

pub ids_step : (x : Call) (l : Ledger) → IdsOf l → IdsOf (step x l).ledger
ids_step = kept_step_lem IdsOf ids_preserved (λ l spawn e u.
    managed_kept spawn (λ r. IdsOf r.ledger) l u (λ h. u) (λ h. ids_budgeted spawn l u) (λ p w h v i t. ids_budgeted spawn (steal_voice v l) (ids_steal v l u)))

pub ids_run : (xs : List Call) (l : Ledger) → IdsOf l → IdsOf (run xs l).ledger
ids_run [] l u = u
ids_run (x ∷ xs) l u = ids_run xs (step x l).ledger (ids_step x l u)

pub ids_new : (c : Config) → IdsOf (new_ledger c)
ids_new c = record { rising = tt; below = λ v i. absurd i }

-- ---- what making fixed stays
pub config_budgeted : (c : Config) (spawn : Spawn) (l : Ledger) → l.shared.config ≡ c → (place_within_budget spawn l).ledger.shared.config ≡ c
config_budgeted c spawn l e =
    place_kept spawn (state_under l.shared.config.budget) (λ n l. l.shared.config ≡ c) (λ r. r.ledger.shared.config ≡ c) (λ n l p h e. e) (λ l h e. e) (λ n l h f e. e) (λ n l v h f e. e)
    (tries l.shared.config.budget l.voices) l e

pub config_steal : (v : Voice) (l : Ledger) → (steal_voice v l).shared.config ≡ l.shared.config
config_steal v l = go (port_held v l)
  where
    go : (o : Option ℕ) → (stolen v o l).shared.config ≡ l.shared.config
    go None = refl
    go (Some p) = refl

pub config_step : (x : Call) (l : Ledger) → IdsOf l → (step x l).ledger.shared.config ≡ l.shared.config
config_step x l u =
    (kept_step_lem (λ m. IdsOf m × (m.shared.config ≡ l.shared.config))
    (voices_only (λ c b n vs. Ids n vs × (c ≡ l.shared.config)) (λ c b n vs w u. (ids_filter (λ x. not (is_voice w x)) u.0, u.1)) (λ c b n vs u. (ids_map (moved one_more) (λ v. refl) u.0, u.1)) (λ c b n vs v e s h k u. (ids_snoc v e u.0, u.1)))
    (λ m spawn e u.
    managed_kept spawn (λ r. IdsOf r.ledger × (r.ledger.shared.config ≡ l.shared.config)) m u.0 (λ h. u)
    (λ h. (ids_budgeted spawn m u.0, config_budgeted l.shared.config spawn m u.1))
    (λ p w h v i t. (ids_budgeted spawn (steal_voice v m) (ids_steal v m u.0), config_budgeted l.shared.config spawn (steal_voice v m) (config_steal v m ∙ u.1))))
    x l (u, refl)).1

pub config_run : (xs : List Call) (l : Ledger) → IdsOf l → (run xs l).ledger.shared.config ≡ l.shared.config
config_run [] l u = refl
config_run (x ∷ xs) l u = config_run xs (step x l).ledger (ids_step x l u) ∙ config_step x l u
