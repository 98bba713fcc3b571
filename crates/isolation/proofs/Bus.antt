-- The bus by itself: a machine that is fed the bus's story alone. It has the ledger's rules, with a voice's number for its id. Nobody
-- has to believe it: it is how the theorem is proved.
use Prim.Native.Nat.{ℕ, zero, suc, ◌+◌, ◌*◌, ◌%◌, min}
use mathlib.Core.List.{List, [], ◌∷◌, ◌++◌, map}
use Rattle.std.specs.Prelude.{Option, None, Some, filter, find, option_map}
use mathlib.Core.Bool.{Bool, true, false, not, cond, ◌&&◌}
use lib.Dec.{eqb, leb, ltb}
use lib.ListN.{length}
use lib.Ieee.{Float, of_bits, binary32}
use Rattle.level.specs.Level.{level_of}
use Rattle.bus.specs.Fade.{fade_length}
use Rattle.rank.specs.Order.{upto}
use Rattle.node.specs.declared.refusal.Refusal.{Refusal}
use Rattle.node.specs.declared.refusal.Refusal.TheVariants.{UnknownNode, DefinitionLimits, BusWithoutPorts, Rejected, NoPort, RankTooHigh}
use Rattle.node.specs.Refusal.{number_of}
use Rattle.edges.specs.Wiring.{listed}
use Rattle.voice.specs.Policy.{Victim, victim, admits}
use Rattle.voice.specs.declared.policy.Admission.{Admission}
use Rattle.voice.specs.declared.policy.Admission.TheVariants as admission
use Rattle.voice.specs.declared.policy.Candidate.{Candidate}
use Rattle.synthdef.specs.Limits.{allowed}
use Rattle.synthdef.specs.Tables.{node_rows}
use Rattle.synthdef.specs.Plan.{plan_of, plan_silent}
use Rattle.synthdef.specs.declared.def.SynthDef.{SynthDef}
use Rattle.synthdef.specs.declared.plan.DonePlan.{DonePlan}
use Rattle.store.specs.declared.config.Config.{Config}
use Rattle.model.specs.Refuse.{rank_limit}
use Rattle.ledger.specs.Ledger.{lowest_port}
use Rattle.isolation.specs.Story.{Entry, opened, closed, plugged, unplugged, lost, managed, loose, freed, reported, cleared, rendered, Phase, held, fading}
use Rattle.isolation.specs.Story as story

-- a voice of the bus: `flags` are the done flags of its definition's nodes, `level` the level of its output node
pub record Own : Type 0 where
  pub number : ℕ
  pub rank : ℕ
  pub birth : ℕ
  pub port : ℕ
  pub count : ℕ
  pub output : ℕ
  pub plan : DonePlan
  pub phase : Phase
  pub level : Option Float
  pub flags : ℕ → Bool

pub data Seat : Type 0 where
  empty : Seat
  host : Seat
  mine : ℕ → Seat

-- its ports and its noise sequence
pub record BusPorts : Type 0 where
  pub ports : ℕ
  pub noise : ℕ

pub record Bus : Type 0 where
  pub config : Config
  pub clock : ℕ
  -- while it is a node of the host
  pub ports : Option BusPorts
  pub seats : ℕ → Seat
  pub voices : List Own

-- ---- one voice
abbrev pub is_number : ℕ → Own → Bool
is_number s v = eqb v.number s

abbrev pub is_held : Phase → Bool
is_held held = true
is_held (fading start count) = false
is_held story.loose = false

abbrev pub is_fading : Phase → Bool
is_fading held = false
is_fading (fading start count) = true
is_fading story.loose = false

abbrev pub start_of : Phase → ℕ
start_of held = 0
start_of (fading start count) = start
start_of story.loose = 0

abbrev pub with_phase : Phase → Own → Own
with_phase x v =
    record { number = v.number; rank = v.rank; birth = v.birth; port = v.port; count = v.count; output = v.output; plan = v.plan; phase = x; level = v.level; flags = v.flags }

abbrev pub level_now : ℕ → Own → Option Float
level_now clock v = cond (ltb v.birth clock) v.level None

abbrev pub tracks : Own → Bool
tracks v = is_held v.phase

abbrev pub fades : Own → Bool
fades v = is_fading v.phase

abbrev pub candidates : ℕ → List Own → List Candidate
candidates clock vs = map (λ v. record { voice = record { 0 = v.number }; level = level_now clock v; rank = v.rank }) (filter tracks vs)

-- ---- seats
abbrev pub is_taken : Seat → Bool
is_taken empty = false
is_taken host = true
is_taken (mine s) = true

abbrev pub by_number : ℕ → Seat → Bool
by_number s empty = false
by_number s host = false
by_number s (mine t) = eqb t s

abbrev pub port_count : Option BusPorts → ℕ
port_count None = 0
port_count (Some r) = r.ports

abbrev pub noise_in : Option BusPorts → ℕ
noise_in None = 0
noise_in (Some r) = r.noise

abbrev pub counted : BusPorts → BusPorts
counted r = record { ports = r.ports; noise = (r.noise + 1) % 4294967296 }

abbrev pub port_free : Bus → Option ℕ
port_free m = lowest_port (port_count m.ports) (λ p. not (is_taken (m.seats p))) 0

abbrev pub port_held : ℕ → Bus → Option ℕ
port_held s m = lowest_port (port_count m.ports) (λ p. by_number s (m.seats p)) 0

abbrev pub seat : ℕ → Seat → (ℕ → Seat) → ℕ → Seat
seat p x h q = cond (eqb q p) x (h q)

abbrev pub leave : ℕ → (ℕ → Seat) → ℕ → Seat
leave s h q = cond (by_number s (h q)) empty (h q)

-- ---- moves
abbrev pub at_voices : Bus → (ℕ → Seat) → List Own → Bus
at_voices m h vs = record { config = m.config; clock = m.clock; ports = m.ports; seats = h; voices = vs }

abbrev pub without_voice : ℕ → Bus → Bus
without_voice s m = at_voices m (leave s m.seats) (filter (λ v. not (is_number s v)) m.voices)

abbrev pub begin : ℕ → ℕ → Own → Own
begin s clock v = cond (is_number s v) (with_phase (fading clock 0) v) v

abbrev pub stolen : ℕ → Option ℕ → Bus → Bus
stolen s (Some p) m = at_voices m m.seats (map (begin s m.clock) m.voices)
stolen s None m = without_voice s m

abbrev pub steal : ℕ → Bus → Bus
steal s m = stolen s (port_held s m) m

abbrev pub new_voice : SynthDef → ℕ → Phase → ℕ → Bus → Own
new_voice def r x p m =
    record {
      number = noise_in m.ports;
      rank = r;
      birth = m.clock;
      port = p;
      count = length (node_rows def.nodes);
      output = def.output;
      plan = plan_of def;
      phase = x;
      level = Some (of_bits binary32 0);
      flags = λ i. false;
    }

pub record SpawnResult : Type 0 where
  pub answer : Option ℕ
  pub bus : Bus

abbrev pub instantiate : SynthDef → ℕ → Phase → ℕ → Bus → SpawnResult
instantiate def r x p m =
    record {
      answer = None;
      bus = record {
        config = m.config;
        clock = m.clock;
        ports = option_map counted m.ports;
        seats = seat p (mine (noise_in m.ports)) m.seats;
        voices = m.voices ++ (new_voice def r x p m ∷ []);
      };
    }

abbrev pub turned : Refusal → Bus → SpawnResult
turned r m = record { answer = Some (number_of r); bus = m }

abbrev pub no_later : Own → Own → Bool
no_later v u = leb (start_of v.phase) (start_of u.phase)

abbrev pub earlier : Option Own → Bool → Own → Option Own
earlier None b v = cond b (Some v) None
earlier (Some u) b v = cond (b && no_later v u) (Some v) (Some u)

abbrev pub earliest : List Own → Option Own
earliest [] = None
earliest (v ∷ vs) = earlier (earliest vs) (fades v) v

abbrev pub voice_of : Victim → List Own → Option Own
voice_of None vs = None
voice_of (Some (place, w)) vs = find (is_number w.0) vs

abbrev pub else_victim : Option Own → Option Own → Option Own
else_victim None o = o
else_victim (Some v) o = Some v

abbrev pub next_out : ℕ → Bus → Option Own
next_out r m = else_victim (earliest m.voices) (voice_of (victim m.config.policy r (candidates m.clock m.voices)) m.voices)

abbrev pub instantiate_or : Option ℕ → Option Own → SynthDef → ℕ → Phase → Bus → (Bus → SpawnResult) → SpawnResult
instantiate_or (Some p) o def r x m again = instantiate def r x p m
instantiate_or None None def r x m again = turned NoPort m
instantiate_or None (Some v) def r x m again = again (without_voice v.number m)

abbrev pub place : ℕ → SynthDef → ℕ → Phase → Bus → SpawnResult
place zero def r x m = instantiate_or (port_free m) None def r x m (turned NoPort)
place (suc fuel) def r x m = instantiate_or (port_free m) (next_out r m) def r x m (λ k. place fuel def r x k)

abbrev pub phase_under : Option ℕ → Phase
phase_under None = story.loose
phase_under (Some n) = held

abbrev pub tries : Option ℕ → List Own → ℕ
tries None vs = 0
tries (Some n) vs = length vs

abbrev pub place_within_budget : SynthDef → ℕ → Bus → SpawnResult
place_within_budget def r m = place (tries m.config.budget m.voices) def r (phase_under m.config.budget) m

abbrev pub steal_then : Option Own → SynthDef → ℕ → Bus → SpawnResult
steal_then None def r m = place_within_budget def r m
steal_then (Some v) def r m = place_within_budget def r (steal v.number m)

abbrev pub admitted : Admission → SynthDef → ℕ → Bus → SpawnResult
admitted admission.Admit def r m = place_within_budget def r m
admitted admission.Reject def r m = turned Rejected m
admitted (admission.Steal place w) def r m = steal_then (find (is_number w.0) m.voices) def r m

abbrev pub admission_on : ℕ → Bus → Admission
admission_on r m = admits m.config.budget m.config.policy r (candidates m.clock m.voices)

-- 26; 9; 4 or 5; 10
abbrev pub no_ports : ℕ → Bus → SpawnResult → SpawnResult
no_ports zero m r = turned BusWithoutPorts m
no_ports (suc n) m r = r

abbrev pub no_bus : Option BusPorts → Bus → SpawnResult → SpawnResult
no_bus None m r = turned UnknownNode m
no_bus (Some x) m r = no_ports x.ports m r

abbrev pub guarded : SynthDef → ℕ → Bus → SpawnResult → SpawnResult
guarded def n m r = cond (ltb rank_limit n) (turned RankTooHigh m) (cond (allowed def) (no_bus m.ports m r) (turned DefinitionLimits m))

-- ---- clearing and render
abbrev pub ended : Config → Phase → Bool
ended c held = false
ended c (fading start count) = leb (fade_length c.rate) (count * c.block)
ended c story.loose = false

abbrev pub silent : Own → Bool
silent v = plan_silent v.plan (map v.flags (upto (min v.count 24)))

abbrev pub without_voices : List Own → Bus → Bus
without_voices [] m = m
without_voices (v ∷ vs) m = without_voices vs (without_voice v.number m)

abbrev pub clear : Bus → Bus
clear m =
    let faded = without_voices (filter (λ v. ended m.config v.phase) m.voices) m in
    without_voices (filter silent faded.voices) faded

abbrev pub free_all : List ℕ → Bus → Bus
free_all [] m = m
free_all (s ∷ l) m = free_all l (without_voice s m)

abbrev pub beat : Phase → Phase
beat held = held
beat (fading start count) = fading start (suc count)
beat story.loose = story.loose

abbrev pub beat_if : Bool → List Own → List Own
beat_if true vs = map (λ v. with_phase (beat v.phase) v) vs
beat_if false vs = vs

abbrev pub block : Bool → Bus → Bus
block b m = record { config = m.config; clock = m.clock + m.config.block; ports = m.ports; seats = m.seats; voices = beat_if b m.voices }

abbrev pub report : ℕ → List Float → Bool → Own → Own
report i samples flag v =
    record {
      number = v.number;
      rank = v.rank;
      birth = v.birth;
      port = v.port;
      count = v.count;
      output = v.output;
      plan = v.plan;
      phase = v.phase;
      level = cond (eqb i v.output) (Some (level_of samples)) v.level;
      flags = λ j. cond (eqb j i) flag (v.flags j);
    }

abbrev pub at_ports : Option BusPorts → (ℕ → Seat) → Bus → Bus
at_ports o h m = record { config = m.config; clock = m.clock; ports = o; seats = h; voices = m.voices }

abbrev pub quiet : Bus → SpawnResult
quiet m = record { answer = None; bus = m }

abbrev pub follow : Entry → Bus → SpawnResult
follow (opened n) m = quiet (at_ports (Some (record { ports = n; noise = 0 })) (λ p. empty) m)
follow closed m = quiet (at_ports None (λ p. empty) m)
follow (plugged p) m = quiet (at_ports m.ports (seat p host m.seats) m)
follow (unplugged p) m = quiet (at_ports m.ports (seat p empty m.seats) m)
follow (lost ps) m = quiet (at_ports m.ports (λ p. cond (listed ps p) empty (m.seats p)) m)
follow (managed def pan r) m = guarded def r m (admitted (admission_on r m) def r m)
follow (loose def pan r) m = guarded def r m (place 0 def r story.loose m)
follow (freed s) m = quiet (without_voice s m)
follow (reported s i samples flag) m = quiet (at_voices m m.seats (map (λ v. cond (is_number s v) (report i samples flag v) v) m.voices))
follow cleared m = quiet (clear m)
follow (rendered ss b) m = quiet (block b (free_all ss m))

abbrev pub new_bus : Config → Bus
new_bus c = record { config = c; clock = 0; ports = None; seats = λ p. empty; voices = [] }
