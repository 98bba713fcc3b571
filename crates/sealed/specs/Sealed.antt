-- What the seal promises, whatever is called: SPEC 18.
use Rattle.std.specs.Prelude.{ℕ, ◌≤◌, ◌<◌, ◌≡◌, List, ◌++◌, true, length, Err}
use Rattle.lists.specs.Member.{In}
use Rattle.node.specs.declared.refusal.Refusal.TheVariants.{TableFull}
use Rattle.voice.specs.declared.voices.Voice.{Voice}
use Rattle.model.specs.Model.{Model}
use Rattle.model.specs.Spawn.{Spawn}
use Rattle.model.specs.Call.{Call}
use Rattle.model.specs.Call as call
use Rattle.ledger.specs.Holder.{voice}
use Rattle.refusals.specs.Definition.{Limits}
use Rattle.refusals.specs.Spawn.{IdsLeft}
use Rattle.ledger.specs.Claim.{after, holder_at, spawn_answer}
use Rattle.sealed.specs.declared.profile.Profile.{Profile}
use Rattle.sealed.specs.Seal.{Fits, all_open}
use Rattle.sealed.specs.Opens.{Fitting}

-- the voice holds the port p of the bus
abbrev pub HoldsPort : Profile → Model → Voice → ℕ → Type 0
HoldsPort s m v p = holder_at m.shared.graph.nodes m.shared.graph.edges s.bus.0 p ≡ voice v.id

-- of the store m, which is sealed by s
pub record Promise (s : Profile) (m : Model) : Type 0 where
  -- a spawn that the seal leaves open never meets 7
  pub never : (x : Spawn) → Fitting s x.def x.bus → (call.step (call.spawn_managed x) m).answer ≡ call.spawned (Err TableFull) → ⊥
  -- Of its rank, its definition and the ids that are left it is asked what every spawn is; of headroom and of the bus nothing more. Then it is
  -- refused by 11 and by 12 alone, and when is what the ledger's claim says: SPEC 9.1.
  pub spawns : (x : Spawn) → Fitting s x.def x.bus → x.rank ≤ 7 → Limits x.def → IdsLeft m.shared x.def
      → (call.step (call.spawn_managed x) m).answer ≡ call.spawned (spawn_answer x.bus x.rank m)
  -- every voice holds a port of the bus, and only one; so there are at most P voices
  pub holds : (v : Voice) → In v m.voices → (p : ℕ) × (p < s.ports) × HoldsPort s m v p
  pub one : (v : Voice) → In v m.voices → (p q : ℕ) → HoldsPort s m v p → HoldsPort s m v q → p ≡ q
  pub few : length m.voices ≤ s.ports

-- A store that making gave was sealed after the calls `before`; the calls `later` are those that the seal let through.
abbrev pub SealedRun : Model → Type 0
SealedRun m =
    (s : Profile) (before later : List Call) → Fits s (after m before).shared (after m before).voices → all_open s later ≡ true → Promise s (after m (before ++ later))
