-- What is true of the voices and of how many voice ids were given out after every list of calls, shown by three moves: voices go, voices
-- change and keep their ids, a new voice takes the next id.
use Prim.Native.Nat.{ℕ, ◌+◌}
use mathlib.Core.Path.{◌≡◌, refl}
use mathlib.Core.List.{List, [], ◌∷◌, ◌++◌, map}
use mathlib.Core.Bool.{Bool, not}
use Rattle.std.specs.Prelude.{filter}
use Rattle.voice.specs.declared.voices.Voice.{Voice}
use Rattle.voice.specs.Voice.{is_voice, begin_fade, moved}
use Rattle.model.specs.Spawn.{new_voice, fade_of}
use Rattle.model.specs.Call.{Call}
use Rattle.ledger.specs.Ledger.{Ledger, admission_on}
use Rattle.ledger.specs.Render.{one_more}
use Rattle.ledger.specs.Call.{run}
use Rattle.ledger.proofs.Preserved.{Preserves, voices_only, kept_run}
use Rattle.ledger.proofs.Managed.{begin_id}
use Rattle.ledger.proofs.Spawning.{Spawning, managed_keeps}

module _ (F : ℕ → List Voice → Type 0)
    (fewer : (n : ℕ) (vs : List Voice) (t : Voice → Bool) → F n vs → F n (filter t vs))
    (same : (n : ℕ) (vs : List Voice) (f : Voice → Voice) → ((v : Voice) → (f v).id ≡ v.id) → F n vs → F n (map f vs))
    (more : (n : ℕ) (vs : List Voice) (v : Voice) → v.id.0 ≡ n + 1 → F n vs → F (n + 1) (vs ++ (v ∷ []))) where
  abbrev pub VoicesOf : Ledger → Type 0
  VoicesOf l = F l.shared.spawned l.voices

  pub voices_spawning : Spawning VoicesOf
  voices_spawning =
      record {
        cuts = λ l v s h. fewer l.shared.spawned l.voices (λ x. not (is_voice v.id x)) h;
        fades = λ l v p h. same l.shared.spawned l.voices (begin_fade v.id (fade_of l.shared)) (begin_id v.id (fade_of l.shared)) h;
        instantiates = λ l spawn s p h. more l.shared.spawned l.voices (new_voice spawn s p l.shared) refl h;
      }

  pub voices_preserved : Preserves VoicesOf
  voices_preserved =
      voices_only (λ c b n vs. F n vs) (λ c b n vs w h. fewer n vs (λ x. not (is_voice w x)) h) (λ c b n vs h. same n vs (moved one_more) (λ v. refl) h) (λ c b n vs v e s lt k h. more n vs v e h)

  pub voices_run : (xs : List Call) (l : Ledger) → VoicesOf l → VoicesOf (run xs l).ledger
  voices_run = kept_run VoicesOf voices_preserved (λ l spawn e h. managed_keeps VoicesOf voices_spawning spawn (admission_on spawn.bus spawn.rank l) l h)
