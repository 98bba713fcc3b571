-- Every number of the rules (SPEC 2, 3, 4, 6, 9, 11, 12, 14, 15), each at its limits and one past them: what a call
-- with that number in it is refused by. The calls are made on a store, and the refusal is what the call answers.
use Rattle.std.specs.Prelude.{ℕ, zero, suc, ◌≡◌, ◌+◌, ◌*◌, ◌≤◌, ◌<◌, List, [], ◌∷◌, ◌++◌, map, Bool, true, false, pos, negsuc, ℤ, Float, replicate, length, Option, None, Some, option_map}
use Rattle.std.specs.Float.{binary32}
use Rattle.std.specs.Float.Ieee.{of_int}
use Rattle.node.specs.Refusal.{number_of}
use Rattle.node.specs.Silence.{bytes, name}
use Rattle.node.specs.declared.name.Name.{Name}
use Rattle.node.specs.declared.order.EventAction.TheVariants as EventAction
use Rattle.node.specs.declared.record.Node.{Node}
use Rattle.bus.specs.Fade.{fade_length}
use Rattle.rank.specs.Order.{upto}
use Rattle.graph.specs.Node.{host_node, with_id}
use Rattle.graph.specs.View.{GraphView}
use Rattle.scheduler.specs.declared.event.Event.{Event}
use Rattle.voice.specs.declared.policy.BudgetScope.TheVariants.{Global}
use Rattle.voice.specs.declared.policy.StealPolicy.TheVariants.{Oldest, Reject}
use Rattle.synthdef.specs.declared.def.DefNode.{DefNode}
use Rattle.synthdef.specs.declared.def.DefEdge.{DefEdge}
use Rattle.synthdef.specs.declared.def.Param.{Param}
use Rattle.synthdef.specs.declared.def.SynthDef.{SynthDef}
use Rattle.voice.specs.declared.voices.Voice.{Voice}
use Rattle.model.specs.SharedState.{with_graph, with_events, with_clock, with_spawned}
use Rattle.voice.specs.Voice.{id}
use Rattle.model.specs.Spawn.{spawn_of}
use Rattle.model.specs.Model.{Model}
use Rattle.model.specs.Make.{refusal_of}
use Rattle.model.specs.Call.{Call, step}
use Rattle.model.specs.Call as call
use Rattle.model.specs.Numbers.{number_in}
use Rattle.model.specs.Scene.{up_to, tones, tone_def, def_edge, float, host, wire, unwire, spawn_loose, voice, after, edge}

-- A number of the rules: these values of it are taken, these are refused with that number, and `answer` is the refusal
-- of a call that has the value in it, or none.
pub record Row : Type 0 where
  pub taken : List ℕ
  pub refused : List ℕ
  pub number : ℕ
  pub answer : ℕ → Option ℕ

abbrev pub row : List ℕ → List ℕ → ℕ → (ℕ → Option ℕ) → Row
row taken refused number answer = record { taken = taken; refused = refused; number = number; answer = answer }

-- what the row says of its values, and what the calls answer
abbrev pub said : Row → List (Option ℕ)
said r = map (λ n. None) r.taken ++ map (λ n. Some r.number) r.refused

abbrev pub answered : Row → List (Option ℕ)
answered r = map r.answer (r.taken ++ r.refused)

-- ---- the calls
-- the refusal of a call on a store
abbrev pub refusal : Call → Model → Option ℕ
refusal c m = number_in (step c m).answer

-- a store with a bus of two ports, node 0, and a node without ports, node 1
abbrev pub wired : Model
wired = after (up_to 64 Reject) (host 2 ∷ host 0 ∷ [])

-- making: a rate, a block, a budget; the fade table
abbrev pub made : Float → ℕ → Option ℕ → Bool → Option ℕ
made rate block budget table =
    option_map number_of
    (refusal_of (record { rate = rate; block = block; budget = budget; policy = Oldest; scope = Global; table = table }))

abbrev pub whole : ℕ → Float
whole n = of_int binary32 (pos n)

-- a store with so many idle nodes and edges more, whose next node id is `next`, and where so many voice ids are given
-- out
abbrev pub idle : Node
idle = with_id 7 (host_node (bytes "Bus") 0 0 false false)

abbrev pub crowded : ℕ → ℕ → ℕ → ℕ → Model
crowded nodes edges next spawned =
    let d = wired.shared in
    let g = d.graph in
    let more : GraphView = record {
      nodes = g.nodes ++ replicate nodes idle;
      edges = g.edges ++ replicate edges (edge 7 8 0);
      sink = g.sink;
      prepared = g.prepared;
      order = g.order;
      next = next;
    } in
    record { shared = with_spawned spawned (with_graph more d); voices = wired.voices }

-- a store with so many voices, copies of one
abbrev pub copies : ℕ → List Voice → List Voice
copies n [] = []
copies n (v ∷ vs) = replicate n v

abbrev pub crowd : ℕ → Model
crowd n =
    let m = after (up_to 64 Reject) (host 2 ∷ spawn_loose 0 ∷ []) in
    record { shared = m.shared; voices = copies n m.voices }

-- a store with a bus of 64 ports, of which the first so many have an edge
abbrev pub fed_ports : List ℕ → List Call
fed_ports [] = []
fed_ports (p ∷ ps) = wire 1 0 p ∷ fed_ports ps

abbrev pub fed : ℕ → Model
fed n = after (up_to 64 Reject) (host 64 ∷ host 0 ∷ fed_ports (upto n))

-- a store with so many pending events
abbrev pub waiting : ℕ → Model
waiting n =
    let e : Event = record { time = 9; voice = voice 1; name = name "gate"; action = EventAction.Free } in
    record { shared = with_events (replicate n e) wired.shared; voices = wired.voices }

abbrev pub at_clock : ℕ → Model
at_clock n = record { shared = with_clock n wired.shared; voices = wired.voices }

-- ---- definitions: nodes, edges, parameters and the output
abbrev pub define : List DefNode → List DefEdge → List Param → ℕ → SynthDef
define ns es ps output =
    record {
      nodes = record { rows = ns; count = length ns };
      edges = record { rows = es; count = length es };
      params = record { rows = ps; count = length ps };
      output = output;
    }

-- a name of so many bytes
abbrev pub long_name : ℕ → Name
long_name n = record { bytes = replicate 16 65; len = n }

-- a node of a kind, with its ports, the ports that it needs, and the ports given by name
abbrev pub def_node : Name → ℕ → ℕ → ℕ → ℕ → ℕ → DefNode
def_node kind ports required i l a =
    record {
      kind = kind;
      ports = ports;
      required = required;
      takes_values = false;
      takes_glides = false;
      in_port = i;
      level_port = l;
      amp_port = a;
    }

abbrev pub mix : ℕ → DefNode
mix ports = def_node (name "Mix") ports 0 255 255 255

abbrev pub alone : DefNode → SynthDef
alone n = define (n ∷ []) [] [] 0

-- 24 nodes of 8 ports
abbrev pub wide : List DefEdge → List Param → ℕ → SynthDef
wide es ps output = define (replicate 24 (mix 8)) es ps output

abbrev pub param : Name → ℕ → Param
param s i = record { name = s; node = i }

-- an unmanaged spawn of it on a store's bus
abbrev pub spawned : SynthDef → Model → Option ℕ
spawned def m = refusal (call.spawn_loose (spawn_of def (id 0) (float 0) 0)) m

abbrev pub defined : SynthDef → Option ℕ
defined def = spawned def wired

-- ---- blocks, of one sample a channel, and fades of 40 gains
abbrev pub ones : ℕ → List Float
ones n = replicate n (float 1)

abbrev pub zeros : ℕ → List ℤ
zeros n = replicate n (pos 0)

abbrev pub one_sample : Model
one_sample =
    after (record { rate = 8000; block = 1; budget = None; policy = Reject; scope = Global; table = false }) (host 0 ∷ [])

abbrev pub sum : List Float → List ℕ → List Float → ℕ → Option ℕ
sum inputs counts out outs = refusal (call.ask (call.bus_sum inputs counts out outs)) one_sample

abbrev pub whole_sum : List ℤ → List ℕ → List ℤ → ℕ → Option ℕ
whole_sum inputs counts out outs = refusal (call.ask (call.whole_sum inputs counts out outs)) one_sample

abbrev pub faded : List Float → ℕ → List Float → List Float → ℕ → Option ℕ
faded input ins gains out outs = refusal (call.ask (call.fade_output input ins gains 0 out outs)) one_sample

abbrev pub whole_faded : List ℤ → List ℕ → Option ℕ
whole_faded input gains = refusal (call.ask (call.whole_fade input 1 gains 0 (zeros 1) 1)) one_sample

abbrev pub reported : ℕ → ℕ → Option ℕ
reported channels samples = refusal (call.report (id 0) channels (ones samples) false) one_sample

-- the number n below 0
abbrev pub below : ℕ → ℤ
below zero = pos 0
below (suc n) = negsuc n

-- ---- the table
unfoldable pub making_rows : List Row
making_rows =
    -- the sample rate in Hz, the samples of a block, the voices of a budget, the rate of the fade table
    row (1 ∷ 384000 ∷ []) (0 ∷ 384001 ∷ []) 1 (λ n. made (whole n) 1 None false)
    ∷ row (1 ∷ 128 ∷ []) (0 ∷ 129 ∷ []) 2 (λ n. made (whole 8000) n None false)
    ∷ row (0 ∷ 64 ∷ []) (65 ∷ []) 3 (λ n. made (whole 8000) 1 (Some n) false)
    ∷ row (48000 ∷ []) (47999 ∷ 48001 ∷ []) 20 (λ n. made (whole n) 1 None true)
    ∷ []

unfoldable pub host_rows : List Row
host_rows =
    -- a host node: the bytes of its kind's name, its ports, and those that it needs, of 3 and of 64 ports
    row (1 ∷ 16 ∷ []) (0 ∷ 17 ∷ []) 6 (λ n. refusal (call.add_node (replicate n 65) 0 0 false false) wired)
    ∷ row (0 ∷ 64 ∷ []) (65 ∷ []) 6 (λ n. refusal (call.add_node (bytes "Bus") n 0 false false) wired)
    ∷ row (0 ∷ 7 ∷ []) (8 ∷ []) 6 (λ n. refusal (call.add_node (bytes "Bus") 3 n false false) wired)
    ∷ row (0 ∷ 18446744073709551615 ∷ []) (18446744073709551616 ∷ []) 6
    (λ n. refusal (call.add_node (bytes "Bus") 64 n false false) wired)
    -- the nodes that there are, and the next id: the two of the bus are among the 512
    ∷ row (0 ∷ 509 ∷ []) (510 ∷ []) 7 (λ n. refusal (host 0) (crowded n 0 2 0))
    ∷ row (2 ∷ 4294967295 ∷ []) (4294967296 ∷ []) 8 (λ n. refusal (host 0) (crowded 0 0 n 0))
    -- the port of a wire, and of one that is undone; the edges that there are
    ∷ row (0 ∷ 1 ∷ []) (2 ∷ []) 6 (λ n. refusal (wire 1 0 n) wired)
    ∷ row (0 ∷ 1 ∷ []) (2 ∷ []) 6 (λ n. refusal (unwire 0 n) wired)
    ∷ row (0 ∷ 63 ∷ []) (64 ∷ []) 6 (λ n. refusal (wire 1 0 n) (fed 0))
    ∷ row (0 ∷ 1023 ∷ []) (1024 ∷ []) 7 (λ n. refusal (wire 1 0 0) (crowded 0 n 2 0))
    ∷ []

unfoldable pub definition_rows : List Row
definition_rows =
    -- nodes, and the bytes of a kind's name
    row (1 ∷ 24 ∷ []) (0 ∷ 25 ∷ []) 9 (λ n. defined (tones n 0))
    ∷ row (1 ∷ 16 ∷ []) (0 ∷ 17 ∷ []) 9 (λ n. defined (alone (def_node (long_name n) 0 0 255 255 255)))
    -- ports, and those that are needed, of 0, 3 and 8 ports
    ∷ row (0 ∷ 8 ∷ []) (9 ∷ []) 9 (λ n. defined (alone (mix n)))
    ∷ row (0 ∷ []) (1 ∷ []) 9 (λ n. defined (alone (def_node (name "Mix") 0 n 255 255 255)))
    ∷ row (0 ∷ 7 ∷ []) (8 ∷ []) 9 (λ n. defined (alone (def_node (name "Mix") 3 n 255 255 255)))
    ∷ row (0 ∷ 255 ∷ []) (256 ∷ []) 9 (λ n. defined (alone (def_node (name "Mix") 8 n 255 255 255)))
    -- the ports given by name, of 3 ports and of 8; 255 is none
    ∷ row (0 ∷ 2 ∷ 255 ∷ []) (3 ∷ 254 ∷ []) 9 (λ n. defined (alone (def_node (name "Mix") 3 0 n 255 255)))
    ∷ row (0 ∷ 2 ∷ 255 ∷ []) (3 ∷ 254 ∷ []) 9 (λ n. defined (alone (def_node (name "Mix") 3 0 255 n 255)))
    ∷ row (0 ∷ 2 ∷ 255 ∷ []) (3 ∷ 254 ∷ []) 9 (λ n. defined (alone (def_node (name "Mix") 3 0 255 255 n)))
    ∷ row (0 ∷ 7 ∷ 255 ∷ []) (8 ∷ 254 ∷ []) 9 (λ n. defined (alone (def_node (name "Mix") 8 0 n n n)))
    -- edges, and what an edge may name: its source, its target, and a port of that
    ∷ row (0 ∷ 48 ∷ []) (49 ∷ []) 9 (λ n. defined (define (mix 1 ∷ mix 1 ∷ []) (replicate n (def_edge 0 1 0)) [] 1))
    ∷ row (0 ∷ 23 ∷ []) (24 ∷ []) 9 (λ n. defined (wide (def_edge n 1 0 ∷ []) [] 0))
    ∷ row (0 ∷ 23 ∷ []) (24 ∷ []) 9 (λ n. defined (wide (def_edge 1 n 0 ∷ []) [] 0))
    ∷ row (0 ∷ 7 ∷ []) (8 ∷ []) 9 (λ n. defined (wide (def_edge 0 1 n ∷ []) [] 0))
    -- parameters, the bytes of a parameter's name, and its node; the output
    ∷ row (0 ∷ 8 ∷ []) (9 ∷ []) 9 (λ n. defined (wide [] (replicate n (param (long_name 1) 0)) 0))
    ∷ row (1 ∷ 16 ∷ []) (0 ∷ 17 ∷ []) 9 (λ n. defined (wide [] (param (long_name n) 0 ∷ []) 0))
    ∷ row (0 ∷ 23 ∷ []) (24 ∷ []) 9 (λ n. defined (wide [] (param (long_name 1) n ∷ []) 0))
    ∷ row (0 ∷ 23 ∷ []) (24 ∷ []) 9 (λ n. defined (wide [] [] n))
    ∷ []

unfoldable pub spawn_rows : List Row
spawn_rows =
    -- the rank
    row (0 ∷ 7 ∷ []) (8 ∷ []) 26 (λ n. refusal (call.spawn_loose (spawn_of tone_def (id 0) (float 0) n)) wired)
    ∷ row (0 ∷ 7 ∷ []) (8 ∷ []) 26 (λ n. refusal (call.spawn_managed (spawn_of tone_def (id 0) (float 0) n)) wired)
    -- the ports of the bus
    ∷ row (1 ∷ 64 ∷ []) (0 ∷ []) 10 (λ n. spawned tone_def (after (up_to 64 Reject) (host n ∷ [])))
    -- nodes with three more, of one node and of 24, and of the 512 two are there; edges with four more, of none and of
    -- 48
    ∷ row (0 ∷ 506 ∷ []) (507 ∷ []) 7 (λ n. spawned tone_def (crowded n 0 2 0))
    ∷ row (0 ∷ 483 ∷ []) (484 ∷ []) 7 (λ n. spawned (tones 24 0) (crowded n 0 2 0))
    ∷ row (0 ∷ 1020 ∷ []) (1021 ∷ []) 7 (λ n. spawned tone_def (crowded 0 n 2 0))
    ∷ row (0 ∷ 972 ∷ []) (973 ∷ []) 7
    (λ n. spawned (define (mix 1 ∷ mix 1 ∷ []) (replicate 48 (def_edge 0 1 0)) [] 1) (crowded 0 n 2 0))
    -- the voices that there are
    ∷ row (1 ∷ 63 ∷ []) (64 ∷ []) 7 (λ n. spawned tone_def (crowd n))
    -- the next node id, of one node and of 24, and the voice ids given out
    ∷ row (2 ∷ 4294967292 ∷ []) (4294967293 ∷ []) 8 (λ n. spawned tone_def (crowded 0 0 n 0))
    ∷ row (2 ∷ 4294967269 ∷ []) (4294967270 ∷ []) 8 (λ n. spawned (tones 24 0) (crowded 0 0 n 0))
    ∷ row (0 ∷ 18446744073709551614 ∷ []) (18446744073709551615 ∷ []) 8 (λ n. spawned tone_def (crowded 0 0 2 n))
    -- the ports of a bus of 64 that have an edge
    ∷ row (0 ∷ 63 ∷ []) (64 ∷ []) 12 (λ n. spawned tone_def (fed n))
    ∷ []

unfoldable pub block_rows : List Row
block_rows =
    -- the inputs of a sum, the channels of one, and those of the output
    row (0 ∷ 1 ∷ 64 ∷ []) (65 ∷ []) 16 (λ n. sum (ones n) (replicate n 1) (ones 1) 1)
    ∷ row (1 ∷ 2 ∷ []) (0 ∷ 3 ∷ []) 16 (λ n. sum (ones n) (n ∷ []) (ones 1) 1)
    ∷ row (1 ∷ 2 ∷ []) (0 ∷ 3 ∷ []) 16 (λ n. sum (ones 1) (1 ∷ []) (ones n) n)
    ∷ row (0 ∷ 1 ∷ 64 ∷ []) (65 ∷ []) 16 (λ n. whole_sum (zeros n) (replicate n 1) (zeros 1) 1)
    ∷ row (1 ∷ 2 ∷ []) (0 ∷ 3 ∷ []) 16 (λ n. whole_sum (zeros n) (n ∷ []) (zeros 1) 1)
    -- the channels of a fade's input and output, the samples of either, and its gains
    ∷ row (1 ∷ 2 ∷ []) (0 ∷ 3 ∷ []) 16 (λ n. faded (ones n) n (ones 40) (ones 1) 1)
    ∷ row (1 ∷ 2 ∷ []) (0 ∷ 3 ∷ []) 16 (λ n. faded (ones 1) 1 (ones 40) (ones n) n)
    ∷ row (1 ∷ []) (0 ∷ 2 ∷ []) 16 (λ n. faded (ones n) 1 (ones 40) (ones 1) 1)
    ∷ row (1 ∷ []) (0 ∷ 2 ∷ []) 16 (λ n. faded (ones 1) 1 (ones 40) (ones n) 1)
    ∷ row (40 ∷ 41 ∷ []) (39 ∷ []) 16 (λ n. faded (ones 1) 1 (ones n) (ones 1) 1)
    -- a whole sample above 0, one below 0, and a whole gain
    ∷ row (0 ∷ 8388607 ∷ []) (8388608 ∷ []) 21 (λ n. whole_faded (pos n ∷ []) (replicate 40 0))
    ∷ row (0 ∷ 8388608 ∷ []) (8388609 ∷ []) 21 (λ n. whole_faded (below n ∷ []) (replicate 40 0))
    ∷ row (0 ∷ 16777216 ∷ []) (16777217 ∷ []) 21 (λ n. whole_faded (zeros 1) (replicate 40 n))
    ∷ row (0 ∷ 8388607 ∷ []) (8388608 ∷ []) 21 (λ n. whole_sum (pos n ∷ []) (1 ∷ []) (zeros 1) 1)
    ∷ row (0 ∷ 8388608 ∷ []) (8388609 ∷ []) 21 (λ n. whole_sum (below n ∷ []) (1 ∷ []) (zeros 1) 1)
    -- a report's channels, and its samples
    ∷ row (1 ∷ 2 ∷ []) (0 ∷ 3 ∷ []) 16 (λ n. reported n n)
    ∷ row (2 ∷ []) (0 ∷ 1 ∷ 3 ∷ []) 16 (λ n. reported 2 n)
    ∷ []

unfoldable pub time_rows : List Row
time_rows =
    -- the pending events, the entries of a render's list, the clock, of which a render of 16 samples passes no more
    -- than 2^64 - 1
    row (0 ∷ 255 ∷ []) (256 ∷ []) 7 (λ n. refusal (call.schedule 9 (voice 2) [] EventAction.Free) (waiting n))
    ∷ row (256 ∷ 257 ∷ []) (0 ∷ 255 ∷ []) 17 (λ n. refusal (call.render (replicate n 7)) wired)
    ∷ row (0 ∷ 18446744073709551599 ∷ []) (18446744073709551600 ∷ []) 15
    (λ n. refusal (call.render (replicate 256 7)) (at_clock n))
    -- the bytes of a page that has a header of 21 and a line of 12
    ∷ row (33 ∷ 34 ∷ []) (0 ∷ 32 ∷ []) 17 (λ n. refusal (call.ask (call.page (replicate n 0))) (crowd 1))
    ∷ []

-- each row's values are answered as the row says
abbrev pub Holds : List Row → Type 0
Holds rows = map answered rows ≡ map said rows

-- ---- the samples of a fade: the rate over 200, halves up, and at least 1
pub record FadeLength (rate : ℕ) : Type 0 where
  pub least : 1 ≤ fade_length rate
  pub up : rate + 100 < 200 * fade_length rate + 200
  pub down : 100 ≤ rate → 200 * fade_length rate ≤ rate + 100
  pub short : rate < 100 → fade_length rate ≡ 1
