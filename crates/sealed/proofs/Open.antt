-- What the calls that a seal leaves open do, move by move: the ledger's open moves. A managed spawn is given.
use Prim.Native.Nat.{◌<◌}
use mathlib.Core.Path.{◌≡◌, refl}
use mathlib.Core.Bool.{false, true≢false}
use Rattle.node.specs.Name.{name_of}
use Rattle.node.specs.declared.record.VoiceId.{VoiceId}
use Rattle.model.specs.Spawn.{Spawn}
use Rattle.model.specs.Call.{Call, event}
use Rattle.model.specs.Call as call
use Rattle.ledger.specs.Ledger.{Ledger}
use Rattle.ledger.specs.Ledger as ledger
use Rattle.ledger.specs.Call.{step}
use Rattle.ledger.proofs.Preserved.{OpenMoves, free_kept, clear_kept, order_kept, schedule_kept, report_kept, prepare_kept, render_kept}
use Rattle.sealed.specs.Seal.{shuts}
use Rattle.sealed.specs.declared.profile.Profile.{Profile}

-- the ids of voices are not 0
abbrev pub Positive : VoiceId → Type 0
Positive w = 0 < w.0

module _ (P : Ledger → Type 0) (k : OpenMoves Positive P) where
  -- every call that the seal leaves open, given what a managed spawn does
  pub open_kept : (s : Profile) (x : Call) (l : Ledger) → shuts s x ≡ false
      → ((spawn : Spawn) → x ≡ call.spawn_managed spawn → P (ledger.spawn_managed spawn l).ledger) → P l → P (step x l).ledger
  open_kept s (call.add_node kind ports required values glides) l h m p = absurd (true≢false h)
  open_kept s (call.remove_node j) l h m p = absurd (true≢false h)
  open_kept s (call.connect a b q) l h m p = absurd (true≢false h)
  open_kept s (call.disconnect b q) l h m p = absurd (true≢false h)
  open_kept s (call.set_sink j) l h m p = absurd (true≢false h)
  open_kept s (call.spawn_managed spawn) l h m p = m spawn refl
  open_kept s (call.spawn_loose spawn) l h m p = absurd (true≢false h)
  open_kept s (call.free w) l h m p = free_kept k w l p
  open_kept s call.clear l h m p = clear_kept k l p
  open_kept s (call.order w name o) l h m p = order_kept k w (name_of name) o l p
  open_kept s (call.schedule t w name a) l h m p = schedule_kept k (event t w name a) l _ refl p
  open_kept s (call.report j channels samples flag) l h m p = report_kept k j channels samples flag l p
  open_kept s call.prepare l h m p = prepare_kept k l p
  open_kept s (call.render out) l h m p = render_kept k out l p
  open_kept s (call.ask q) l h m p = p
