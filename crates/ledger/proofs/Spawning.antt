-- What both spawns keep, whoever is removed for them: what the removal of a voice with its record, the start of a fade and the instantiation of a
-- new voice each keep.
use Prim.Native.Nat.{ℕ}
use Rattle.std.specs.Prelude.{Option, None, Some, find}
use Rattle.voice.specs.declared.policy.Admission.{Admission}
use Rattle.voice.specs.declared.policy.Admission.TheVariants as admission
use Rattle.voice.specs.declared.voices.Voice.{Voice}
use Rattle.voice.specs.declared.voices.VoiceState.{VoiceState}
use Rattle.voice.specs.declared.voices.VoiceState.TheVariants.{Tracked}
use Rattle.voice.specs.Voice.{is_voice}
use Rattle.model.specs.Spawn.{state_under, tries, Spawn}
use Rattle.ledger.specs.Ledger.{Ledger, port_held, cut_off, fade, stolen, steal_voice, instantiate, place, place_within_budget, steal_then, admitted}
use Rattle.ledger.proofs.Preserved.{place_kept}

pub record Spawning (P : Ledger → Type 0) : Type 0 where
  pub cuts : (l : Ledger) (v : Voice) (s : VoiceState) → P l → P (cut_off v s l)
  pub fades : (l : Ledger) (v : Voice) (p : ℕ) → P l → P (fade v p l)
  pub instantiates : (l : Ledger) (spawn : Spawn) (s : VoiceState) (p : ℕ) → P l → P (instantiate spawn s p l).ledger

module _ (P : Ledger → Type 0) (k : Spawning P) (spawn : Spawn) where
  pub place_keeps : (n : ℕ) (s : VoiceState) (l : Ledger) → P l → P (place n spawn s l).ledger
  place_keeps n s l q =
      place_kept spawn s (λ n l. P l) (λ r. P r.ledger) (λ n l p e q. k.instantiates l spawn s p q) (λ l e q. q) (λ n l e f q. q) (λ n l v e f q. k.cuts l v v.state q) n l q

  budgeted_keeps : (l : Ledger) → P l → P (place_within_budget spawn l).ledger
  budgeted_keeps l q = place_keeps (tries l.shared.config.budget l.voices) (state_under l.shared.config.budget) l q

  steal_keeps : (v : Voice) (l : Ledger) → P l → P (steal_voice v l)
  steal_keeps v l q = go (port_held v l)
    where
      go : (o : Option ℕ) → P (stolen v o l)
      go None = k.cuts l v Tracked q
      go (Some p) = k.fades l v p q

  pub managed_keeps : (a : Admission) (l : Ledger) → P l → P (admitted a spawn l).ledger
  managed_keeps admission.Admit l q = budgeted_keeps l q
  managed_keeps admission.Reject l q = q
  managed_keeps (admission.Steal place w) l q = go (find (is_voice w) l.voices)
    where
      go : (o : Option Voice) → P (steal_then o spawn l).ledger
      go None = budgeted_keeps l q
      go (Some v) = budgeted_keeps (steal_voice v l) (steal_keeps v l q)
