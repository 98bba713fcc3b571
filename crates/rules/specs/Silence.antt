-- Silence (SPEC 7), apart from the definitions that decide it: the kinds that have a rule as one literal table, what
-- each rule says of a node's ports, and what a done plan has to answer.
use Rattle.std.specs.Prelude.{ℕ, ◌+◌, ◌≡◌, ◌<◌, ◌≤◌, ◌⊎◌, ◌↔◌, List, [], ◌∷◌, ◌++◌, Bool, true, false, length, take, Option, None, Some, slice_get}
use Prim.Native.String.{String}
use Rattle.lists.specs.Member.{In}
use Rattle.node.specs.Silence.{bytes, silence_of}
use Rattle.node.specs.declared.name.Name.{Name}
use Rattle.node.specs.declared.record.Node.{Node}
use Rattle.node.specs.declared.silence.SilenceRule.{SilenceRule}
use Rattle.node.specs.declared.silence.SilenceRule.TheVariants.{Own, AnyPort, FirstPort, EveryPort, LevelPort, AmpPort, InPort}
use Rattle.graph.specs.Node.{node_at}
use Rattle.synthdef.specs.Tables.{node_rows, edge_rows}
use Rattle.synthdef.specs.Limits.{allowed}
use Rattle.synthdef.specs.Plan.{plan_of}
use Rattle.synthdef.specs.declared.def.DefNode.{DefNode}
use Rattle.synthdef.specs.declared.def.DefEdge.{DefEdge}
use Rattle.synthdef.specs.declared.def.SynthDef.{SynthDef}
use Rattle.voice.specs.declared.voices.Voice.{Voice}
use Rattle.voice.specs.declared.voices.VoiceState.{VoiceState}
use Rattle.model.specs.SharedState.{SharedState}
use Rattle.voice.specs.Voice.{id}
use Rattle.model.specs.Spawn.{Spawn, new_voice}
use Rattle.model.specs.Clear.{is_silent}

-- ---- the kinds that have a rule
pub record KindRow : Type 0 where
  pub kind : List ℕ
  pub rule : SilenceRule

abbrev pub row : String → SilenceRule → KindRow
row kind rule = record { kind = bytes kind; rule = rule }

-- the seven rules by name, and the 27 kinds that pass on the silence of their port `in`
unfoldable pub silence_table : List KindRow
silence_table =
    row "Mul" AnyPort
    ∷ row "Div" FirstPort
    ∷ row "Add" EveryPort
    ∷ row "Sub" EveryPort
    ∷ row "FmOp" LevelPort
    ∷ row "Paf" AmpPort
    ∷ row "Neg" InPort
    ∷ row "OnePole" InPort
    ∷ row "BiquadLPF" InPort
    ∷ row "BiquadHPF" InPort
    ∷ row "BiquadBPF" InPort
    ∷ row "BiquadNotch" InPort
    ∷ row "AllpassFilter" InPort
    ∷ row "BiquadPeaking" InPort
    ∷ row "BiquadLowShelf" InPort
    ∷ row "BiquadHighShelf" InPort
    ∷ row "ParametricEq3" InPort
    ∷ row "Compressor" InPort
    ∷ row "Limiter" InPort
    ∷ row "Bitcrusher" InPort
    ∷ row "SoftClip" InPort
    ∷ row "Overdrive" InPort
    ∷ row "WaveFolder" InPort
    ∷ row "FreqShift" InPort
    ∷ row "Chorus" InPort
    ∷ row "Flanger" InPort
    ∷ row "Phaser" InPort
    ∷ row "WowFlutter" InPort
    ∷ row "Steepen" InPort
    ∷ row "StereoWidth" InPort
    ∷ row "Pan2" InPort
    ∷ row "Mix" InPort
    ∷ row "Clip" InPort
    ∷ row "Lag" InPort
    ∷ []

-- n is the name of 1 to 16 bytes that is this text
pub record Called (t : List ℕ) (n : Name) : Type 0 where
  pub some : 1 ≤ n.len
  pub most : n.len ≤ 16
  pub text : take n.len n.bytes ≡ t

-- A kind of the table has the table's rule, and every other kind none of its own.
pub record TheTable : Type 0 where
  pub listed : (k : KindRow) → In k silence_table → (n : Name) → Called k.kind n → silence_of n ≡ k.rule
  pub other : (n : Name) → ((k : KindRow) → In k silence_table → Called k.kind n → ⊥) → silence_of n ≡ Own

-- ---- what a rule says of a node, where Q p says that port p is connected and its source silent
abbrev pub Asked : SilenceRule → DefNode → (ℕ → Type 0) → Type 0
Asked Own n Q = ⊥
Asked AnyPort n Q = (p : ℕ) × (p < n.ports) × Q p
Asked FirstPort n Q = Q 0
Asked EveryPort n Q = (0 < n.ports) × ((p : ℕ) → p < n.ports → Q p)
Asked LevelPort n Q = (n.level_port < n.ports) × Q n.level_port
Asked AmpPort n Q = (n.amp_port < n.ports) × Q n.amp_port
Asked InPort n Q = (n.in_port < n.ports) × Q n.in_port

-- Of a definition's edges to port p of node i the last comes from node j.
pub record Feeds (es : List DefEdge) (j i p : ℕ) : Type 0 where
  pub before : List DefEdge
  pub edge : DefEdge
  pub after : List DefEdge
  pub split : es ≡ before ++ (edge ∷ after)
  pub source : edge.from ≡ j
  pub target : edge.to ≡ i
  pub port : edge.port ≡ p
  pub last : (e : DefEdge) → In e after → e.to ≡ i → e.port ≡ p → ⊥

-- Node i, which is n, is silent: its done flag is set, or its rule says so of the silence of its sources.
abbrev pub Falls : SynthDef → (ℕ → Bool) → (ℕ → Bool) → DefNode → ℕ → Type 0
Falls d done silent n i =
    (done i ≡ true) ⊎ Asked (silence_of n.kind) n (λ p. (j : ℕ) × Feeds (edge_rows d.edges) j i p × (silent j ≡ true))

abbrev pub SilentBy : SynthDef → (ℕ → Bool) → (ℕ → Bool) → Type 0
SilentBy d done silent =
    (i : ℕ) (n : DefNode) → slice_get (node_rows d.nodes) i ≡ Some n → (silent i ≡ true) ↔ Falls d done silent n i

-- ---- a done plan
-- the done flag of the voice's node at place i; that of a node that is not there is clear
abbrev pub flag : Option Node → Bool
flag None = false
flag (Some n) = n.done

abbrev pub flag_at : List Node → Voice → ℕ → Bool
flag_at ns v i = flag (node_at ns (id (v.first.0 + i)))

-- There is one answer which nodes of the definition are silent, and the voice is silent where its output is.
pub record PlanAnswers (d : SynthDef) (ns : List Node) (v : Voice) : Type 0 where
  pub silent : ℕ → Bool
  pub by_rule : SilentBy d (flag_at ns v) silent
  pub only : (other : ℕ → Bool) → SilentBy d (flag_at ns v) other → (i : ℕ) → i < length (node_rows d.nodes)
      → other i ≡ silent i
  pub voice : is_silent ns v ≡ silent d.output

-- So it is of each voice with the plan and the nodes of a definition, of whatever state, rank, bus or pan.
abbrev pub PlanLaw : Type 0
PlanLaw =
    (d : SynthDef) → allowed d ≡ true → (ns : List Node) (v : Voice) → v.plan ≡ plan_of d
    → v.count ≡ length (node_rows d.nodes) → PlanAnswers d ns v

-- And a spawn gives its voice the plan and the nodes of the definition that it is asked for.
abbrev pub SpawnedPlan : Type 0
SpawnedPlan =
    (x : Spawn) → allowed x.def ≡ true → (s : VoiceState) (p : ℕ) (m : SharedState) (ns : List Node)
    → PlanAnswers x.def ns (new_voice x s p m)
