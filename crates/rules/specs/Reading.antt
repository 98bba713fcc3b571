-- Reading (SPEC 14): each question gives every row that it asks for, and changes nothing; and the page says each number
-- in decimal.
use Rattle.std.specs.Prelude.{ℕ, ◌≡◌, ◌+◌, ◌-◌, ◌*◌, ◌<◌, ◌≤◌, List, [], ◌∷◌, ◌++◌, true, cond, length, drop, Option, Some, None, option_map, slice_get}
use Rattle.lists.specs.Member.{In}
use Rattle.node.specs.Silence.{bytes}
use Rattle.node.specs.declared.record.NodeId.{NodeId}
use Rattle.node.specs.declared.record.VoiceId.{VoiceId}
use Rattle.node.specs.declared.record.Node.{Node}
use Rattle.node.specs.declared.record.Edge.{Edge}
use Rattle.node.specs.declared.refusal.Refusal.TheVariants.{ShortBuffer}
use Rattle.voice.specs.declared.steals.StealRecord.{StealRecord}
use Rattle.voice.specs.Steals.{StealLog, pushed, marked}
use Rattle.voice.specs.declared.voices.Voice.{Voice}
use Rattle.voice.specs.declared.voices.VoiceState.{VoiceState}
use Rattle.voice.specs.declared.voices.VoiceState.TheVariants.{Tracked, Fading, Loose}
use Rattle.model.specs.Model.{Model}
use Rattle.model.specs.Call.{Question, Answer, step}
use Rattle.model.specs.Call as call
use Rattle.rules.specs.First.{First}

abbrev pub answer : Question → Model → Answer
answer q m = (step (call.ask q) m).answer

-- ---- rows
abbrev pub HasId : VoiceId → Voice → Type 0
HasId w v = v.id.0 ≡ w.0

abbrev pub IsNode : NodeId → Node → Type 0
IsNode k n = n.id.0 ≡ k.0

abbrev pub EndsAt : NodeId → ℕ → Edge → Type 0
EndsAt k p e = (e.to.0 ≡ k.0) × (e.port ≡ p)

-- the place p of the 64 in which the sources stand: what the first edge to port p comes from, or none
abbrev pub Source : List Edge → NodeId → List (Option NodeId) → ℕ → Type 0
Source es k l p = (o : Option Edge) × First (EndsAt k p) es o × (slice_get l p ≡ Some (option_map (λ e. e.from) o))

abbrev pub position_in : VoiceState → Option ℕ
position_in Tracked = None
position_in (Fading f) = Some f.position
position_in Loose = None

abbrev pub position_if : Option Voice → Option ℕ
position_if None = None
position_if (Some v) = position_in v.state

pub record Questions (m : Model) : Type 0 where
  pub voices : answer call.voices m ≡ call.all m.voices
  pub voice_at : (before : List Voice) (v : Voice) (after : List Voice) → m.voices ≡ before ++ (v ∷ after)
      → answer (call.voice_at (length before)) m ≡ call.found (Some v)
  pub past : (i : ℕ) → length m.voices ≤ i → answer (call.voice_at i) m ≡ call.found None
  pub voice : (w : VoiceId) → (o : Option Voice) × First (HasId w) m.voices o × (answer (call.voice w) m ≡ call.found o)
  pub position : (w : VoiceId)
      → (o : Option Voice) × First (HasId w) m.voices o × (answer (call.position w) m ≡ call.reached (position_if o))
  pub node : (k : NodeId)
      → (o : Option Node) × First (IsNode k) m.shared.graph.nodes o
      × (answer (call.node_record k) m ≡ call.found_node o)
  pub sources : (k : NodeId)
      → (l : List (Option NodeId)) × (answer (call.sources k) m ≡ call.fed l) × (length l ≡ 64)
      × ((p : ℕ) → p < 64 → Source m.shared.graph.edges k l p)
  pub steals : answer call.steals m ≡ call.stolen m.shared.steals
  pub edges : answer call.edges m ≡ call.wires m.shared.graph.edges
  pub processing : answer call.processing m ≡ call.in_order m.shared.graph.order
  pub clock : answer call.clock m ≡ call.time m.shared.clock
  pub same : (q : Question) → (step (call.ask q) m).model ≡ m

-- ---- the steal records: how many there were, and the newest 64 of them
pub record LogLaw (b : StealLog) (r : StealRecord) : Type 0 where
  pub counted : b.count < 18446744073709551615 → (pushed b r).count ≡ b.count + 1
  pub few : length b.newest < 64 → (pushed b r).newest ≡ b.newest ++ (r ∷ [])
  pub full : (old : StealRecord) (rest : List StealRecord) → b.newest ≡ old ∷ rest → length b.newest ≡ 64
      → (pushed b r).newest ≡ rest ++ (r ∷ [])

-- A reclaimed fade's record is marked cut where it is still held; records are numbered from 0 in the order in which
-- they came.
pub record MarkLaw (b : StealLog) (k : ℕ) : Type 0 where
  pub held : (before : List StealRecord) (r : StealRecord) (after : List StealRecord) → b.newest ≡ before ++ (r ∷ after)
      → k ≡ b.count - length b.newest + length before
      → (marked b k).newest
      ≡ before ++ (record { sample = r.sample; level = r.level; known = r.known; cut = true } ∷ after)
  pub gone : k < b.count - length b.newest → (marked b k).newest ≡ b.newest
  pub counted : (marked b k).count ≡ b.count

-- ---- decimal
-- the number that digits in ASCII read as, after those of n
abbrev pub read_on : ℕ → List ℕ → ℕ
read_on n [] = n
read_on n (c ∷ l) = read_on (10 * n + (c - 48)) l

-- l is n in decimal: digits that read as n, with no zero in front
pub record Decimal (n : ℕ) (l : List ℕ) : Type 0 where
  pub digits : (c : ℕ) → In c l → (48 ≤ c) × (c ≤ 57)
  pub some : 1 ≤ length l
  pub short : (rest : List ℕ) → l ≡ 48 ∷ rest → rest ≡ []
  pub value : read_on 0 l ≡ n

-- ---- the page
-- the last node of a voice: its fade, else its pan node, which stands behind its own nodes and the pan's constant, else
-- its output
abbrev pub last_in : VoiceState → NodeId → NodeId
last_in Tracked k = k
last_in (Fading f) k = f.node
last_in Loose k = k

abbrev pub last_node : Voice → NodeId
last_node v = last_in v.state (cond v.panned (record { 0 = v.first.0 + v.count + 1 }) v.output)

-- the edge leads from the voice's last node to its bus
abbrev pub Sounds : Voice → Edge → Type 0
Sounds v e = (e.from.0 ≡ (last_node v).0) × (e.to.0 ≡ v.bus.0)

-- the port of the first such edge in decimal, or a dash
abbrev pub PortText : Option Edge → List ℕ → Type 0
PortText None t = t ≡ bytes "-"
PortText (Some e) t = Decimal e.port t

abbrev pub word : VoiceState → List ℕ
word Tracked = bytes "held"
word (Fading f) = bytes "fading"
word Loose = bytes "loose"

-- a voice's line: its id, its age in samples, its port and its state, one space between, and a line feed
pub record Line (clock : ℕ) (es : List Edge) (v : Voice) (line : List ℕ) : Type 0 where
  pub id : List ℕ
  pub age : List ℕ
  pub port : List ℕ
  pub edge : Option Edge
  pub id_is : Decimal v.id.0 id
  pub age_is : Decimal (clock - v.birth) age
  pub sounds : First (Sounds v) es edge
  pub port_is : PortText edge port
  pub text : line ≡ id ++ (bytes " " ++ (age ++ (bytes " " ++ (port ++ (bytes " " ++ (word v.state ++ bytes "\n"))))))

-- a line for each voice, in order
abbrev pub Lines : ℕ → List Edge → List Voice → List ℕ → Type 0
Lines clock es [] text = text ≡ []
Lines clock es (v ∷ vs) text = (line rest : List ℕ) × Line clock es v line × Lines clock es vs rest
    × (text ≡ line ++ rest)

-- The page stands in a buffer that has room for it, and the buffer's later bytes stay; 17 where there is no room.
pub record PageLaw (m : Model) : Type 0 where
  pub lines : List ℕ
  pub each : Lines m.shared.clock m.shared.graph.edges m.voices lines
  pub room : (out : List ℕ) → length (bytes "voice age port state\n" ++ lines) ≤ length out
      → answer (call.page out) m
      ≡ call.printed (length (bytes "voice age port state\n" ++ lines)) ((bytes "voice age port state\n" ++ lines) ++ drop (length (bytes "voice age port state\n" ++ lines)) out)
  pub no_room : (out : List ℕ) → length out < length (bytes "voice age port state\n" ++ lines)
      → answer (call.page out) m ≡ call.refused ShortBuffer
