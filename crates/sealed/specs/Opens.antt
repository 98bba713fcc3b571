-- The calls that a seal leaves open, one by one, and when a board is sealed: SPEC 18. The definitions `closes` (Board) and `accepts` (Seal) say
-- the same: `opens_exactly`, `accepts_exactly` and what follows of proofs/Opens.antt.
use Rattle.std.specs.Prelude.{ℕ, ◌≤◌, ◌≡◌, ◌↔◌, List, [], Bool, true, Float, None, Some}
use Rattle.node.specs.declared.order.EventAction.{EventAction}
use Rattle.node.specs.declared.order.LastOrder.{LastOrder}
use Rattle.node.specs.declared.record.NodeId.{NodeId}
use Rattle.node.specs.declared.record.VoiceId.{VoiceId}
use Rattle.synthdef.specs.declared.def.SynthDef.{SynthDef}
use Rattle.store.specs.declared.wish.Wish.{Wish}
use Rattle.model.specs.Spawn.{Spawn}
use Rattle.model.specs.Call.{Question}
use Rattle.model.specs.Call as call
use Rattle.console.specs.Wishes.{waiting_at}
use Rattle.console.specs.Console.{ConsoleCall, console_step}
use Rattle.console.specs.Console as console
use Rattle.sealed.specs.declared.profile.Profile.{Profile}
use Rattle.sealed.specs.declared.refusal.SealRefusal.{SealRefusal}
use Rattle.sealed.specs.declared.refusal.SealRefusal.TheVariants.{Closed}
use Rattle.sealed.specs.Seal.{Fits}
use Rattle.sealed.specs.Board.{Board, on, seal, given, sealed, refused, BoardStep, board_step}

-- a spawn on the seal's bus, of no more nodes and edges than the seal says, as they are given
pub record Fitting (s : Profile) (def : SynthDef) (bus : NodeId) : Type 0 where
  pub on_bus : bus.0 ≡ s.bus.0
  pub nodes : def.nodes.count ≤ s.def_nodes
  pub edges : def.edges.count ≤ s.def_edges

pub data LeavesOpen (s : Profile) : ConsoleCall → Type 0 where
  -- managed spawns that fit, the wishes for them, and turns
  spawn : (x : Spawn) → Fitting s x.def x.bus → LeavesOpen s (console.on (call.spawn_managed x))
  wish : (q : ℕ) (w : Wish) → w.managed ≡ true → Fitting s w.def w.bus → LeavesOpen s (console.wish q w)
  turn : LeavesOpen s console.turn
  -- frees and clearings
  free : (w : VoiceId) → LeavesOpen s (console.on (call.free w))
  clear : LeavesOpen s (console.on call.clear)
  -- values, glides and events
  order : (w : VoiceId) (name : List ℕ) (o : LastOrder) → LeavesOpen s (console.on (call.order w name o))
  schedule : (t : ℕ) (w : VoiceId) (name : List ℕ) (a : EventAction) → LeavesOpen s (console.on (call.schedule t w name a))
  -- reports, prepares, renders
  report : (k : NodeId) (channels : ℕ) (samples : List Float) (flag : Bool) → LeavesOpen s (console.on (call.report k channels samples flag))
  prepare : LeavesOpen s (console.on call.prepare)
  render : (out : List ℕ) → LeavesOpen s (console.on (call.render out))
  -- whatever is asked
  ask : (q : Question) → LeavesOpen s (console.on (call.ask q))

-- the board's call is the console's, and the seal stays
abbrev pub IsConsoles : Board → ConsoleCall → Type 0
IsConsoles b c =
    let t = console_step c b.console in
    ◌≡◌ {A = BoardStep} (board_step (on c) b) (record { answer = given t.answer; board = record { console = t.console; seal = b.seal } })

-- the call c on the board b, whichever it is
pub record Passes (b : Board) (c : ConsoleCall) : Type 0 where
  -- of a board that is not sealed, and where its seal leaves the call open, it is the console's own, and the seal stays
  pub unsealed : b.seal ≡ None → IsConsoles b c
  pub opened : (s : Profile) → b.seal ≡ Some s → LeavesOpen s c → IsConsoles b c
  -- else it is answered by 28 and leaves the very board
  pub shut : (s : Profile) → b.seal ≡ Some s → (LeavesOpen s c → ⊥) → board_step (on c) b ≡ record { answer = refused Closed; board = b }

-- no wish waits at any keyboard
abbrev pub NoWish : Board → Type 0
NoWish b = (q : ℕ) → waiting_at q b.console.wishes ≡ []

-- Sealing the board b by s is accepted exactly where it is not sealed, the profile fits the store, which has no voice, and no wish waits. It is
-- closed exactly where the board is sealed. What it changes is the seal.
pub record Sealing (b : Board) (s : Profile) : Type 0 where
  pub accepted : ((board_step (seal s) b).answer ≡ sealed) ↔ ((b.seal ≡ None) × Fits s b.console.model.shared b.console.model.voices × NoWish b)
  pub closed : ((board_step (seal s) b).answer ≡ refused Closed) ↔ ((b.seal ≡ None) → ⊥)
  pub seals : (board_step (seal s) b).answer ≡ sealed → (board_step (seal s) b).board ≡ record { console = b.console; seal = Some s }
  pub keeps : (r : SealRefusal) → (board_step (seal s) b).answer ≡ refused r → (board_step (seal s) b).board ≡ b
