-- Pan (SPEC 9.8), and levels and reports (SPEC 11).
use Rattle.std.specs.Prelude.{ℕ, ℤ, ◌≡◌, ◌+◌, ◌*◌, ◌<◌, ◌≤◌, ◌⊎◌, List, [], ◌∷◌, ◌++◌, map, Bool, true, false, length, T, pos, Float, Option, Some, None}
use Rattle.std.specs.Float.{nan, inf, fin, binary32, binary64}
use Rattle.std.specs.Float.Ieee.{add, div, of_int, up, down, fits}
use Rattle.std.specs.Float.Ieee.Exact.{HasValue}
use Rattle.lists.specs.Member.{In}
use Rattle.level.specs.Root.{sqrt, NearestRoot}
use Rattle.level.specs.Narrow.{narrow, NearestEven}
use Rattle.level.specs.Level.{level_of}
use Rattle.node.specs.Node.{new_node}
use Rattle.node.specs.Silence.{name}
use Rattle.node.specs.declared.record.NodeId.{NodeId}
use Rattle.node.specs.declared.record.VoiceId.{VoiceId}
use Rattle.node.specs.declared.record.Node.{Node}
use Rattle.node.specs.declared.refusal.Refusal.TheVariants.{UnknownNode, LentBlock}
use Rattle.graph.specs.View.{with_nodes}
use Rattle.graph.specs.Node.{with_id, noise_raised}
use Rattle.voice.specs.Steals.{record_of, record_level}
use Rattle.synthdef.specs.Tables.{node_rows, edge_rows}
use Rattle.synthdef.specs.Edges.{counted}
use Rattle.synthdef.specs.declared.def.SynthDef.{SynthDef}
use Rattle.synthdef.specs.declared.def.DefNode.{DefNode}
use Rattle.voice.specs.declared.voices.Voice.{Voice}
use Rattle.voice.specs.declared.voices.VoiceState.{VoiceState}
use Rattle.model.specs.SharedState.{SharedState, with_graph}
use Rattle.voice.specs.Voice.{id}
use Rattle.model.specs.Voice.{voice_level, candidate}
use Rattle.model.specs.Spawn.{Spawn, instantiate_shared, new_voice, next_voice, pans, wire, voice_wires, voice_out}
use Rattle.model.specs.Model.{Model}
use Rattle.model.specs.Call.{Answer, Step, step}
use Rattle.model.specs.Call as call
use Rattle.rules.specs.First.{First}
use Rattle.rules.specs.Reading.{HasId, IsNode, answer}

-- ---- pan
-- +0 or -0
abbrev pub IsZero : Float → Type 0
IsZero x = (s : Bool) × HasValue x s 0 1

-- the nodes of a voice: those of its definition, as new ones, and where it is panned the pan's constant and the pan
-- node
abbrev pub own_node : VoiceId → DefNode → Node
own_node w n = new_node (id 0) w n.kind n.ports n.required n.takes_values n.takes_glides

abbrev pub pan_nodes : VoiceId → List Node
pan_nodes w = new_node (id 0) w (name "Const") 0 0 false false ∷ new_node (id 0) w (name "Pan2") 2 1 false false ∷ []

-- with the ids from k on
abbrev pub numbered : ℕ → List Node → List Node
numbered k [] = []
numbered k (n ∷ ns) = with_id k n ∷ numbered (k + 1) ns

abbrev pub nodes_in : SynthDef → ℕ
nodes_in def = length (node_rows def.nodes)

-- What a spawn puts behind the nodes that there are: a pan equal to 0 is left out, and every other pans, also a NaN and
-- an infinity.
pub record PanLaw (x : Spawn) (s : VoiceState) (p : ℕ) (d : SharedState) : Type 0 where
  pub middle : IsZero x.pan
      → ((new_voice x s p d).panned ≡ false)
      × ((instantiate_shared x p d).graph.nodes
      ≡ noise_raised x.bus d.graph.nodes ++ numbered d.graph.next (map (own_node (next_voice d)) (node_rows x.def.nodes)))
  pub panned : (IsZero x.pan → ⊥)
      → ((new_voice x s p d).panned ≡ true)
      × ((instantiate_shared x p d).graph.nodes
      ≡ noise_raised x.bus d.graph.nodes ++ numbered d.graph.next (map (own_node (next_voice d)) (node_rows x.def.nodes) ++ pan_nodes (next_voice d)))

-- How the voice's nodes are joined, by their places: as the definition's counted edges say; and where it is panned its
-- output feeds port 0 of the pan node and the pan's constant port 1, and the pan node feeds the bus in the output's
-- place.
pub record PanWires (x : Spawn) : Type 0 where
  pub middle : IsZero x.pan
      → (voice_wires x.def (pans x.pan) ≡ map (λ e. wire e.from e.to e.port) (counted (edge_rows x.def.edges)))
      × (voice_out x.def (pans x.pan) ≡ x.def.output)
  pub panned : (IsZero x.pan → ⊥)
      → (voice_wires x.def (pans x.pan)
      ≡ map (λ e. wire e.from e.to e.port) (counted (edge_rows x.def.edges))
      ++ (wire x.def.output (nodes_in x.def + 1) 0 ∷ wire (nodes_in x.def) (nodes_in x.def + 1) 1 ∷ []))
      × (voice_out x.def (pans x.pan) ≡ nodes_in x.def + 1)

-- ---- the level of a block
-- y is exactly the square of x
abbrev pub IsSquare : Float → Float → Type 0
IsSquare nan y = y ≡ nan
IsSquare (inf s) y = y ≡ inf false
IsSquare (fin s m e) y = HasValue y false (m * up e * (m * up e)) (down e * down e)

-- z is a and the squares of the samples, in order, each sum rounded to binary64 and no square
abbrev pub SumOfSquares : Float → List Float → Float → Type 0
SumOfSquares a [] z = z ≡ a
SumOfSquares a (x ∷ xs) z = (y : Float) × IsSquare x y × SumOfSquares (add binary64 a y) xs z

-- The level of samples of an f32: the root of the mean of their squares from +0 on, narrowed to binary32; the root and
-- the narrowing are the nearest.
pub record LevelLaw : Type 0 where
  pub level : (xs : List Float) → ((x : Float) → In x xs → T (fits binary32 x))
      → (z : Float) × SumOfSquares (fin false 0 (pos 0)) xs z
      × (level_of xs ≡ narrow (sqrt (div binary64 z (of_int binary64 (pos (length xs))))))
  pub root : (m : ℕ) (e : ℤ) → 0 < m → T (fits binary64 (fin false m e))
      → NearestRoot (fin false m e) (sqrt (fin false m e))
  pub root_else : (sqrt nan ≡ nan) × (sqrt (inf false) ≡ inf false)
      × ((s : Bool) (e : ℤ) → sqrt (fin s 0 e) ≡ fin s 0 e)
  pub narrowed : (s : Bool) (m : ℕ) (e : ℤ) → NearestEven binary32 s (m * up e) (down e) (narrow (fin s m e))
  pub narrowed_else : (narrow nan ≡ nan) × ((s : Bool) → narrow (inf s) ≡ inf s)

-- ---- the level of a voice
-- It is that of its output, whatever float that is, once the clock has passed its birth; none before, and none of a
-- dead output.
pub record VoiceLevel (d : SharedState) (v : Voice) : Type 0 where
  pub known : v.birth < d.clock → (n : Node) → First (IsNode v.output) d.graph.nodes (Some n)
      → voice_level d v ≡ Some n.level
  pub dead : First (IsNode v.output) d.graph.nodes None → voice_level d v ≡ None
  pub unborn : d.clock ≤ v.birth → voice_level d v ≡ None
  -- a candidate has it with the voice's id and rank
  pub asked : candidate d v ≡ record { voice = v.id; level = voice_level d v; rank = v.rank }

abbrev pub level_if : SharedState → Option Voice → Option Float
level_if d None = None
level_if d (Some v) = voice_level d v

abbrev pub LevelAsked : Type 0
LevelAsked = (m : Model) (w : VoiceId)
    → (o : Option Voice) × First (HasId w) m.voices o × (answer (call.level w) m ≡ call.known (level_if m.shared o))

-- A steal's record holds the clock, the level if one is known, whatever float that is, and whether the victim was cut.
pub record RecordLaw (clock : ℕ) (o : Option Float) (cut : Bool) : Type 0 where
  pub sample : (record_of clock o cut).sample ≡ clock
  pub level : record_level (record_of clock o cut) ≡ o
  pub cut_so : (record_of clock o cut).cut ≡ cut

-- ---- reports
-- the node is the host's, or one of the definition's nodes of a live voice
abbrev pub MayReport : Model → NodeId → Type 0
MayReport m k =
    (n : Node) × First (IsNode k) m.shared.graph.nodes (Some n)
    × ((n.owner.0 ≡ 0) ⊎ ((v : Voice) × First (HasId n.owner) m.voices (Some v) × (v.first.0 ≤ k.0)
    × (k.0 < v.first.0 + v.count)))

-- one or two channels, each of a block
abbrev pub IsBlock : Model → ℕ → List Float → Type 0
IsBlock m channels samples = ((channels ≡ 1) ⊎ (channels ≡ 2)) × (length samples ≡ channels * m.shared.config.block)

-- the node's record with a report's level and done flag, and everything else as it was
abbrev pub noted : Float → Bool → Node → Node
noted level done n =
    record {
      id = n.id;
      owner = n.owner;
      kind = n.kind;
      ports = n.ports;
      required = n.required;
      takes_values = n.takes_values;
      takes_glides = n.takes_glides;
      done = done;
      level = level;
      last = n.last;
      noise = n.noise;
    }

abbrev pub with_rows : List Node → Model → Model
with_rows ns m = record { shared = with_graph (with_nodes m.shared.graph ns) m.shared; voices = m.voices }

abbrev pub report : Model → NodeId → ℕ → List Float → Bool → Step
report m k channels samples done = step (call.report k channels samples done) m

-- A report is stored in its node's record, and nothing else changes; 4 where the node takes none, then 16 where the
-- block is of another size.
pub record ReportLaw (m : Model) (k : NodeId) (channels : ℕ) (samples : List Float) (done : Bool) : Type 0 where
  pub stored : MayReport m k → IsBlock m channels samples → (before : List Node) (n : Node) (after : List Node)
      → m.shared.graph.nodes ≡ before ++ (n ∷ after) → IsNode k n → ((o : Node) → In o before → IsNode k o → ⊥)
      → ((o : Node) → In o after → IsNode k o → ⊥)
      → report m k channels samples done
      ≡ record { answer = call.done; model = with_rows (before ++ (noted (level_of samples) done n ∷ after)) m }
  pub unknown : (MayReport m k → ⊥)
      → report m k channels samples done ≡ record { answer = call.refused UnknownNode; model = m }
  pub block : MayReport m k → (IsBlock m channels samples → ⊥)
      → report m k channels samples done ≡ record { answer = call.refused LentBlock; model = m }
