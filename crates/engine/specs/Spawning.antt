-- The parts of a spawn, over the model: what stands between its refusals and its voice.
use Rattle.std.specs.Prelude.{ℕ, zero, suc, ◌+◌, ◌≤◌, ◌<◌, ◌≡◌, List, [], ◌∷◌, ◌++◌, Bool, true, cond, ◌||◌, eqb, leb, ltb, length, Option, None, Some, find, Result}
use Rattle.node.specs.declared.record.NodeId.{NodeId}
use Rattle.node.specs.declared.record.VoiceId.{VoiceId}
use Rattle.node.specs.declared.record.Edge.{Edge}
use Rattle.node.specs.declared.refusal.Refusal.{Refusal}
use Rattle.node.specs.declared.refusal.Refusal.TheVariants.{BusWithoutPorts, TableFull, IdsUsedUp}
use Rattle.graph.specs.View.{GraphView}
use Rattle.graph.specs.Node.{node_at, ports_of}
use Rattle.graph.specs.Change.{edge}
use Rattle.graph.specs.Refuse.{when, host_refusal}
use Rattle.voice.specs.Policy.{admits, victim}
use Rattle.voice.specs.Steals.{StealLog}
use Rattle.voice.specs.declared.policy.Admission.{Admission}
use Rattle.voice.specs.declared.voices.Voice.{Voice}
use Rattle.voice.specs.Voice.{id, is_voice, counted, tracked_on}
use Rattle.synthdef.specs.Tables.{node_rows, edge_rows}
use Rattle.synthdef.specs.Edges as edges_of
use Rattle.synthdef.specs.Instance.{id_after, live_edges}
use Rattle.synthdef.specs.Limits.{allowed}
use Rattle.synthdef.specs.declared.def.SynthDef.{SynthDef}
use Rattle.model.specs.Refuse.{or_else}
use Rattle.model.specs.SharedState.{SharedState, with_steals}
use Rattle.model.specs.Voice.{candidates}
use Rattle.model.specs.Spawn.{Spawn, state_under, tries, next_out, reclaim_log, voice_of, voice_out}
use Rattle.model.specs.Model.{Model, SpawnResult, place, port_free, cut_off, steal_voice}

-- ---- the refusals over what they read: of the bus 4, 5, 10; of the counts 7 and 8
abbrev pub bus_refusal : GraphView → NodeId → Option Refusal
bus_refusal g bus = or_else (host_refusal g bus) (when (eqb (ports_of (node_at g.nodes bus)) 0) BusWithoutPorts None)

abbrev pub room_refusal : Model → ℕ → ℕ → Option Refusal
room_refusal m ns es =
    when (ltb 512 (length m.shared.graph.nodes + ns + 3) || (ltb 1024 (length m.shared.graph.edges + es + 4) || leb 64 (length m.voices))) TableFull
    (when (ltb 4294967296 (m.shared.graph.next + ns + 3) || leb 18446744073709551615 m.shared.spawned) IdsUsedUp None)

-- ---- room for the new voice, with its pan
pub record Headroom (def : SynthDef) (m : Model) : Type 0 where
  pub within : allowed def ≡ true
  pub places : length m.shared.graph.nodes + def.nodes.count + 2 ≤ 512
  pub wires : length m.shared.graph.edges + def.edges.count + 3 ≤ 1024
  pub seats : length m.voices < 64
  pub ids : m.shared.graph.next + def.nodes.count + 2 ≤ 4294967296
  pub names : m.shared.spawned < 18446744073709551615

-- room for a fade alone
pub record FadeRoom (m : Model) : Type 0 where
  pub places : length m.shared.graph.nodes + 1 ≤ 512
  pub wires : length m.shared.graph.edges + 2 ≤ 1024
  pub ids : m.shared.graph.next + 1 ≤ 4294967296

-- room for a fade and the new voice: what the refusals leave
pub record Roomy (def : SynthDef) (m : Model) : Type 0 where
  pub within : allowed def ≡ true
  pub places : length m.shared.graph.nodes + def.nodes.count + 3 ≤ 512
  pub wires : length m.shared.graph.edges + def.edges.count + 4 ≤ 1024
  pub seats : length m.voices < 64
  pub ids : m.shared.graph.next + def.nodes.count + 3 ≤ 4294967296
  pub names : m.shared.spawned < 18446744073709551615

-- ---- other steal records
abbrev pub restolen : StealLog → Model → Model
restolen b m = record { shared = with_steals b m.shared; voices = m.voices }

-- ---- a port of the bus, made free where there is none
-- who is removed, where no port is free
abbrev pub if_none : Option ℕ → Option Voice → Option Voice
if_none None o = o
if_none (Some p) o = None

abbrev pub leaving : NodeId → ℕ → Model → Option Voice
leaving bus rank m = if_none (port_free bus m) (next_out m.shared bus rank m.voices)

abbrev pub cut_now : Voice → Model → Model
cut_now v m = cut_off v v.state m

abbrev pub go_on : Option Voice → Model → (Model → Model) → Model
go_on None m again = m
go_on (Some v) m again = again (cut_now v m)

-- what is left after at most so many removals
abbrev pub reclaimed : ℕ → NodeId → ℕ → Model → Model
reclaimed zero bus rank m = m
reclaimed (suc k) bus rank m = go_on (leaving bus rank m) m (λ j. reclaimed k bus rank j)

-- at most so many are removed, and this is the lowest free port of what is left
pub record Makes (fuel : ℕ) (bus : NodeId) (rank : ℕ) (m n : Model) (p : Option ℕ) : Type 0 where
  pub is : n ≡ reclaimed fuel bus rank m
  pub port : p ≡ port_free bus n

-- the tracked voice of the bus that gives way
abbrev pub victim_on : SharedState → NodeId → ℕ → List Voice → Option Voice
victim_on d bus rank vs = voice_of (victim d.config.policy rank (candidates d (tracked_on bus) vs)) vs

-- ---- One way through for both spawns: an unmanaged one goes by no budget, so that it is neither tracked nor steals nor reclaims.
abbrev pub budget_for : Bool → Option ℕ → Option ℕ
budget_for managed b = cond managed b None

abbrev pub admission_under : Option ℕ → NodeId → ℕ → Model → Admission
admission_under b bus rank m = admits b m.shared.config.policy rank (candidates m.shared (counted m.shared.config.scope bus) m.voices)

abbrev pub place_under : Option ℕ → Spawn → Model → SpawnResult
place_under b x m = place (tries b m.voices) x (state_under b) m

abbrev pub steal_found : Option Voice → Model → Model
steal_found None m = m
steal_found (Some v) m = steal_voice v m

abbrev pub steal : VoiceId → Model → Model
steal w m = steal_found (find (is_voice w) m.voices) m

abbrev pub answer_in : Result VoiceId Refusal → Model → SpawnResult
answer_in a m = record { answer = a; model = m }

-- ---- the edges of a new voice whose nodes have the ids from `first` on
-- its output feeds port 0 of the pan node, the constant port 1
abbrev pub pan_edges : NodeId → ℕ → ℕ → List Edge
pan_edges first output n = edge (id_after first output) (id_after first (n + 1)) 0 ∷ edge (id_after first n) (id_after first (n + 1)) 1 ∷ []

abbrev pub inner_edges : NodeId → SynthDef → Bool → List Edge
inner_edges first def pan = live_edges (edges_of.counted (edge_rows def.edges)) first ++ cond pan (pan_edges first def.output (length (node_rows def.nodes))) []

abbrev pub outer_edge : NodeId → SynthDef → Bool → NodeId → ℕ → Edge
outer_edge first def pan bus p = edge (id_after first (voice_out def pan)) bus p
