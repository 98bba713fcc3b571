-- What stands between the refusals of a spawn and its voice: room for the new voice, with its pan. A fade has used up no more
-- than the one node, edge and id that headroom counts for it, and what is reclaimed only makes room.
use Rattle.std.specs.Option.{option_map_or}
use Rattle.std.specs.Prelude.{ℕ, ◌+◌, ◌≤◌, ◌<◌, ◌≡◌, Bool, true, cond, ◌||◌, eqb, leb, ltb, length, Option, None, Some, find, Result}
use Rattle.node.specs.declared.record.NodeId.{NodeId}
use Rattle.node.specs.declared.record.VoiceId.{VoiceId}
use Rattle.node.specs.declared.refusal.Refusal.{Refusal}
use Rattle.node.specs.declared.refusal.Refusal.TheVariants.{BusWithoutPorts, TableFull, IdsUsedUp}
use Rattle.graph.specs.Refuse.{when}
use Rattle.graph_rows.specs.declared.node_row.Brief.{Brief}
use Rattle.graph_tables.specs.Brief.{host_brief}
use Rattle.voice.specs.Policy.{admits}
use Rattle.voice.specs.declared.policy.Admission.{Admission}
use Rattle.voice.specs.declared.voices.Voice.{Voice}
use Rattle.synthdef.specs.Limits.{allowed}
use Rattle.synthdef.specs.declared.def.SynthDef.{SynthDef}
use Rattle.model.specs.Refuse.{or_else}
use Rattle.voice.specs.Voice.{is_voice, counted}
use Rattle.model.specs.Voice.{candidates}
use Rattle.model.specs.Spawn.{Spawn, state_under, tries}
use Rattle.model.specs.Model.{Model, SpawnResult, place, steal_voice}
use Rattle.memory.specs.View.{Memory, model_of}

-- ---- the refusals over what they read: of the bus 4, 5, 10; of the counts 7 and 8
abbrev pub bus_brief : Option Brief → Option Refusal
bus_brief b = or_else (host_brief b) (when (eqb (option_map_or (λ n. n.ports) b 0) 0) BusWithoutPorts None)

abbrev pub room_refusal : ℕ → ℕ → ℕ → ℕ → ℕ → ℕ → ℕ → Option Refusal
room_refusal nodes edges voices next spawned ns es =
    when (ltb 512 (nodes + ns + 3) || (ltb 1024 (edges + es + 4) || leb 64 voices)) TableFull
    (when (ltb 4294967296 (next + ns + 3) || leb 18446744073709551615 spawned) IdsUsedUp None)

-- ---- ids for a new voice and its nodes
pub record NewIds (def : SynthDef) (next spawned : ℕ) : Type 0 where
  pub within : allowed def ≡ true
  pub ids : next + def.nodes.count + 2 ≤ 4294967296
  pub names : spawned < 18446744073709551615

pub record Headroom (def : SynthDef) (m : Model) : Type 0 where
  pub within : allowed def ≡ true
  pub places : length m.shared.graph.nodes + def.nodes.count + 2 ≤ 512
  pub wires : length m.shared.graph.edges + def.edges.count + 3 ≤ 1024
  pub seats : length m.voices < 64
  pub ids : m.shared.graph.next + def.nodes.count + 2 ≤ 4294967296
  pub names : m.shared.spawned < 18446744073709551615

-- room for a fade alone
pub record FadeRoom (m : Model) : Type 0 where
  pub places : length m.shared.graph.nodes + 1 ≤ 512
  pub wires : length m.shared.graph.edges + 2 ≤ 1024
  pub ids : m.shared.graph.next + 1 ≤ 4294967296

-- room for a fade and the new voice: what the refusals leave
pub record Roomy (def : SynthDef) (m : Model) : Type 0 where
  pub within : allowed def ≡ true
  pub places : length m.shared.graph.nodes + def.nodes.count + 3 ≤ 512
  pub wires : length m.shared.graph.edges + def.edges.count + 4 ≤ 1024
  pub seats : length m.voices < 64
  pub ids : m.shared.graph.next + def.nodes.count + 3 ≤ 4294967296
  pub names : m.shared.spawned < 18446744073709551615

-- ---- what a spawn answers, and what the store then stands for
abbrev pub result_of : Result VoiceId Refusal → Memory → SpawnResult
result_of a n = record { answer = a; model = model_of n }

-- ---- One way through for both spawns: "without a budget nobody is tracked, stolen or reclaimed", and so it is with an unmanaged spawn.
abbrev pub budget_for : Bool → Option ℕ → Option ℕ
budget_for managed b = cond managed b None

-- what a new voice on the bus meets under the budget b, and how it gets its port
abbrev pub admission_under : Option ℕ → NodeId → ℕ → Model → Admission
admission_under b bus rank m = admits b m.shared.config.policy rank (candidates m.shared (counted m.shared.config.scope bus) m.voices)

abbrev pub place_under : Option ℕ → Spawn → Model → SpawnResult
place_under b x m = place (tries b m.voices) x (state_under b) m

-- the voice w is stolen, if it lives
abbrev pub steal_found : Option Voice → Model → Model
steal_found None m = m
steal_found (Some v) m = steal_voice v m

abbrev pub steal : VoiceId → Model → Model
steal w m = steal_found (find (is_voice w) m.voices) m
