-- The words of the lemmas on the ledger: what the claim says of the store, said of the ledger, where a fade has the count of its sounding
-- renders and a port its holder. `Claim` carries the lemmas over to the store.
use Rattle.std.specs.Prelude.{Result}
use Rattle.node.specs.declared.refusal.Refusal.{Refusal}
use Rattle.node.specs.declared.record.VoiceId.{VoiceId}
use Prim.Native.Nat.{ℕ, ◌+◌, ◌≤◌}
use mathlib.Core.Path.{◌≡◌}
use mathlib.Core.List.{List, [], ◌∷◌, ◌++◌}
use mathlib.Core.Bool.{Bool, true}
use lib.ListN.{length}
use Rattle.lists.specs.Member.{In}
use Rattle.lists.specs.Count.{more, count}
use Rattle.node.specs.declared.record.NodeId.{NodeId}
use Rattle.rank.specs.Order.{upto}
use Rattle.graph.specs.Node.{node_at, ports_of}
use Rattle.scheduler.specs.Queue as queue
use Rattle.scheduler.specs.declared.event.Event.{Event}
use Rattle.synthdef.specs.Rows.{every}
use Rattle.store.specs.declared.config.Config.{Config}
use Rattle.voice.specs.declared.voices.Voice.{Voice}
use Rattle.voice.specs.declared.voices.VoiceState.TheVariants.{Tracked, Fading, Loose}
use Rattle.voice.specs.declared.voices.Fade.{Fade}
use Rattle.voice.specs.Voice.{is_on, moved_fade, with_state}
use Rattle.model.specs.Spawn.{Spawn, next_voice}
use Rattle.model.specs.Clear.{is_silent}
use Rattle.model.specs.Render.{is_free, deadline}
use Rattle.model.specs.Call.{Call, Answer}
use Rattle.model.specs.Call as call
use Rattle.ledger.specs.Ledger.{Ledger}
use Rattle.ledger.specs.Clear as clearing
use Rattle.ledger.specs.Call.{run}
use Rattle.ledger.specs.Claim.{ledger_after, is_sounded, held_record, cut_if_held, no_steals, by_other, outranked, answer_when}

-- how many of the calls, from the ledger l on, were sounding renders
abbrev pub soundings : List Call → Ledger → ℕ
soundings xs l = count is_sounded (run xs l).answers

-- the voice v, which fades by f after the calls xs, was stolen by one of them, a managed spawn: it was tracked before, the fade starts
-- at that clock and has the number of the next record, and its count is the number of sounding renders since
pub record Stolen (c : Config) (xs : List Call) (v : Voice) (f : Fade) : Type 0 where
  pub before : List Call
  pub after : List Call
  pub spawn : Spawn
  pub split : xs ≡ before ++ (call.spawn_managed spawn ∷ after)
  pub tracked : In (with_state Tracked v) (ledger_after c before).voices
  pub start : f.start ≡ (ledger_after c before).shared.clock
  pub number : f.number ≡ (ledger_after c before).shared.steals.count
  pub counts : f.position ≡ soundings after (ledger_after c (before ++ (call.spawn_managed spawn ∷ [])))

-- the fade after a call that answered so: its count, here `position`, is one more after a sounding render, and else the same
abbrev pub beat : Answer → Fade → Fade
beat a f = moved_fade (more (is_sounded a)) f

-- the voice is still there, all the same but for the count
abbrev pub GoesOn : Voice → Fade → Answer → List Voice → Type 0
GoesOn v f a vs = In (with_state (Fading (beat a f)) v) vs

-- why a voice v that faded by f is not there any more, after the call x that made of l the ledger l'
pub data Why (l l' : Ledger) (v : Voice) (f : Fade) : Call → Type 0 where
  freed : Why l l' v f (call.free v.id)
  timed : (out : List ℕ) (e : Event) → In e l.shared.events → queue.due (deadline l.shared) e ≡ true → is_free e.action ≡ true → e.voice ≡ v.id → Why l l' v f (call.render out)
  ended : clearing.ended l.shared v.state ≡ true → Why l l' v f call.clear
  silent : is_silent l.shared.graph.nodes v ≡ true → Why l l' v f call.clear
  reclaimed : (x : Spawn) → is_on x.bus v ≡ true → cut_if_held (held_record l'.shared.steals f.number) ≡ true → Why l l' v f (call.spawn_managed x)

-- nobody is tracked or fading, and nothing was recorded
pub record AllLoose (l : Ledger) : Type 0 where
  pub voices : (v : Voice) → In v l.voices → v.state ≡ Loose
  pub log : l.shared.steals ≡ no_steals

-- every port of the bus is held so
abbrev pub blocked : NodeId → ℕ → Ledger → Bool
blocked bus r l = every (λ p. by_other l.shared.config.policy bus r l.voices (l.holders bus.0 p)) (upto (ports_of (node_at l.shared.graph.nodes bus)))

-- what a spawn answers that the table does not refuse
abbrev pub spawn_answer : NodeId → ℕ → Ledger → Result VoiceId Refusal
spawn_answer bus r l = answer_when (outranked l.shared.config bus r l.voices) (blocked bus r l) (next_voice l.shared)

-- what they hold, with places left for so many nodes, edges and voices
pub record Headroom (n e v : ℕ) (l : Ledger) : Type 0 where
  pub nodes : length l.shared.graph.nodes + n ≤ 512
  pub edges : length l.shared.graph.edges + e ≤ 1024
  pub voices : length l.voices + v ≤ 64
  pub events : length l.shared.events ≤ 256
