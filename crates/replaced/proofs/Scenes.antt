-- Scenes of replacing, each with the wrong rule that it refuses. `pending` is A's queue by time, sort and number; `last` a node's last
-- order. What B has is computed beside it, so that no scene is one in which nothing was replaced.
use Prim.Native.Nat.{ℕ}
use Prim.Native.String.{String}
use mathlib.Core.Path.{◌≡◌, refl}
use mathlib.Core.List.{List, [], ◌∷◌, map}
use Rattle.std.specs.Prelude.{Option, None, Some, option_map, filter}
use mathlib.Core.Bool.{Bool, true, false, ◌&&◌, not, cond}
use lib.ListN.{replicate, length}
use lib.Dec.{eqb}
use lib.Ieee.{eq}
use Rattle.node.specs.declared.order.EventAction.{EventAction}
use Rattle.node.specs.declared.order.LastOrder.{LastOrder}
use Rattle.node.specs.declared.refusal.Refusal.TheVariants.{TableFull}
use Rattle.scheduler.specs.declared.event.Event.{Event}
use Rattle.store.specs.declared.answer.Rendered.TheVariants as Rendered
use Rattle.voice.specs.declared.policy.StealPolicy.TheVariants.{Oldest}
use Rattle.synthdef.specs.declared.def.Param.{Param}
use Rattle.synthdef.specs.declared.def.SynthDef.{SynthDef}
use Rattle.model.specs.Call as call
use Rattle.node.specs.Name.{same_name}
use Rattle.node.specs.Silence.{name, bytes}
use Rattle.graph.specs.Node.{node_at}
use Rattle.rank.specs.Order.{among, fed, released, walk, order, whole, count_up}
use Rattle.prepare.specs.Live.{rising_from, live_nodes, live_ids, processing_order}
use Rattle.prepare.specs.Required.{any, lacks, lacking}
use Rattle.prepare.specs.Prepare.{prepare}
use Rattle.scheduler.specs.Event.{param_of}
use Rattle.scheduler.specs.Queue.{inserted, replacing}
use Rattle.scheduler.specs.Replace.{replaces, same_sort}
use Rattle.voice.specs.Voice.{id}
use Rattle.model.specs.Model.{Model}
use Rattle.model.specs.Make.{new_model}
use Rattle.model.specs.Render.{apply_events}
use Rattle.model.specs.Call.{Call, done, refused, event}
use Rattle.model.specs.Scene.{up_to, plain, float, voice, host, sink, timed_free, render, told, after, asked, further, voices, linear}
use Rattle.model.specs.Spawn.{spawn_of}
use Rattle.replaced.specs.Kept.{with_queue, kept_run}

-- ---- a swell: node 1 takes values and glides and is `cut`, `bend` and `gate`; node 2 takes values only and is `rate`
abbrev param : String → ℕ → Param
param s i = record { name = name s; node = i }

abbrev swell : SynthDef
swell =
    record {
      nodes = record { rows = plain "Key" true true ∷ plain "Lfo" true false ∷ []; count = 2 };
      edges = record { rows = []; count = 0 };
      params = record { rows = param "cut" 0 ∷ param "bend" 0 ∷ param "gate" 0 ∷ param "rate" 1 ∷ []; count = 4 };
      output = 0;
    }

abbrev value : ℕ → LastOrder
value n = LastOrder.Value (float n)

abbrev glide : ℕ → LastOrder
glide n = LastOrder.Glide (linear n 1)

abbrev at : ℕ → String → ℕ → Call
at t s n = call.schedule t (voice 1) (bytes s) (EventAction.Value (float n))

abbrev to : ℕ → String → ℕ → Call
to t s n = call.schedule t (voice 1) (bytes s) (EventAction.Glide (linear n 1))

abbrev gate : ℕ → String → ℕ → Call
gate t s n = call.schedule t (voice 1) (bytes s) (EventAction.Gate (float n))

abbrev before : List Call
before = host 2 ∷ sink 0 ∷ call.spawn_managed (spawn_of swell (id 0) (float 0) 0) ∷ call.prepare ∷ []

abbrev start : Model
start = after (up_to 2 Oldest) before

-- A and B after these
abbrev a : List Call → Model
a calls = further calls start

abbrev b : List Call → Model
b calls = (kept_run calls start start).model

abbrev last : ℕ → Model → Option LastOrder
last k m = option_map (λ n. n.last) (node_at m.shared.graph.nodes (id k))

abbrev pending : Model → List EventAction
pending m = map (λ (e : Event). e.action) m.shared.events

abbrev val : ℕ → EventAction
val n = EventAction.Value (float n)

abbrev gli : ℕ → EventAction
gli n = EventAction.Glide (linear n 1)

-- ---- value, glide, value at one time: the first value is removed and the last stands behind the glide. Refuses: replaced in place, which
-- leaves the glide last.
in_order :
    (pending (a (at 4 "cut" 1 ∷ to 4 "cut" 3 ∷ at 4 "cut" 5 ∷ [])) ≡ gli 3 ∷ val 5 ∷ [])
    × (pending (b (at 4 "cut" 1 ∷ to 4 "cut" 3 ∷ at 4 "cut" 5 ∷ [])) ≡ val 1 ∷ gli 3 ∷ val 5 ∷ [])
    × (last 1 (a (at 4 "cut" 1 ∷ to 4 "cut" 3 ∷ at 4 "cut" 5 ∷ render ∷ [])) ≡ Some (value 5))
    × (last 1 (b (at 4 "cut" 1 ∷ to 4 "cut" 3 ∷ at 4 "cut" 5 ∷ render ∷ [])) ≡ Some (value 5))
unfolding eq prepare processing_order lacking lacks any live_ids live_nodes rising_from whole order walk released fed among count_up
in_order = (refl, refl, refl, refl)

-- A glide replaces a glide, and no value: `rate` takes values only, so that the value stays its last order. Refuses: the sort ignored.
by_sort :
    (pending (a (at 4 "rate" 1 ∷ to 4 "rate" 3 ∷ [])) ≡ val 1 ∷ gli 3 ∷ [])
    × (last 2 (a (at 4 "rate" 1 ∷ to 4 "rate" 3 ∷ render ∷ [])) ≡ Some (value 1))
    × (pending (a (to 4 "cut" 1 ∷ at 4 "cut" 3 ∷ to 4 "cut" 5 ∷ [])) ≡ val 3 ∷ gli 5 ∷ [])
    × (last 1 (a (to 4 "cut" 1 ∷ at 4 "cut" 3 ∷ to 4 "cut" 5 ∷ render ∷ [])) ≡ Some (glide 5))
unfolding eq prepare processing_order lacking lacks any live_ids live_nodes rising_from whole order walk released fed among count_up
by_sort = (refl, refl, refl, refl)

-- The block is 16: the first render takes the value at 4, the second the one at 20. Refuses: the time ignored.
by_time :
    (pending (a (at 4 "cut" 1 ∷ at 20 "cut" 3 ∷ [])) ≡ val 1 ∷ val 3 ∷ [])
    × (last 1 (a (at 4 "cut" 1 ∷ at 20 "cut" 3 ∷ render ∷ [])) ≡ Some (value 1))
    × (last 1 (a (at 4 "cut" 1 ∷ at 20 "cut" 3 ∷ render ∷ render ∷ [])) ≡ Some (value 3))
unfolding eq prepare processing_order lacking lacks any live_ids live_nodes rising_from whole order walk released fed among count_up
by_time = (refl, refl, refl)

-- ---- A gate is a value for `gate`, whatever bytes stand beside it, 0 and 17 of them too. Refuses: a gate by its own bytes; a gate as a
-- sort of its own.
gates :
    (pending (a (gate 4 "rate" 1 ∷ at 4 "gate" 3 ∷ [])) ≡ val 3 ∷ [])
    × (pending (a (at 4 "gate" 1 ∷ gate 4 "" 3 ∷ [])) ≡ EventAction.Gate (float 3) ∷ [])
    × (pending (a (gate 4 "" 1 ∷ gate 4 "ratexxxxxxxxxxxxx" 3 ∷ [])) ≡ EventAction.Gate (float 3) ∷ [])
    × (pending (a (gate 4 "rate" 1 ∷ at 4 "rate" 3 ∷ [])) ≡ EventAction.Gate (float 1) ∷ val 3 ∷ [])
    × (pending (a (gate 4 "rate" 1 ∷ to 4 "gate" 3 ∷ [])) ≡ EventAction.Gate (float 1) ∷ gli 3 ∷ [])
    × (last 1 (a (gate 4 "rate" 1 ∷ at 4 "gate" 3 ∷ render ∷ [])) ≡ Some (value 3))
unfolding eq prepare processing_order lacking lacks any live_ids live_nodes rising_from whole order walk released fed among count_up
gates = (refl, refl, refl, refl, refl, refl)

-- "an event whose name is not 1 to 16 bytes replaces none"; a free replaces none and is replaced by none; another voice's stays.
-- Refuses: unnamed ones that are equal; frees by their voice; the voice ignored.
apart :
    (pending (a (at 4 "" 1 ∷ at 4 "" 3 ∷ [])) ≡ val 1 ∷ val 3 ∷ [])
    × (pending (a (at 4 "ratexxxxxxxxxxxxx" 1 ∷ at 4 "ratexxxxxxxxxxxxx" 3 ∷ [])) ≡ val 1 ∷ val 3 ∷ [])
    × (pending (a (at 4 "ratexxxxxxxxxxxx" 1 ∷ at 4 "ratexxxxxxxxxxxx" 3 ∷ [])) ≡ val 3 ∷ [])
    × (pending (a (timed_free 4 1 ∷ timed_free 4 1 ∷ [])) ≡ EventAction.Free ∷ EventAction.Free ∷ [])
    × (pending (a (at 4 "cut" 1 ∷ call.schedule 4 (voice 2) (bytes "cut") (val 3) ∷ [])) ≡ val 1 ∷ val 3 ∷ [])
unfolding eq prepare processing_order lacking lacks any live_ids live_nodes rising_from whole order walk released fed among count_up
apart = (refl, refl, refl, refl, refl)

-- ---- A free between: the value before it is replaced all the same, the one after it finds no voice, and both machines have none.
free_between :
    (pending (a (at 4 "cut" 1 ∷ timed_free 4 1 ∷ at 4 "cut" 3 ∷ [])) ≡ EventAction.Free ∷ val 3 ∷ [])
    × (pending (b (at 4 "cut" 1 ∷ timed_free 4 1 ∷ at 4 "cut" 3 ∷ [])) ≡ val 1 ∷ EventAction.Free ∷ val 3 ∷ [])
    × (voices (a (at 4 "cut" 1 ∷ timed_free 4 1 ∷ at 4 "cut" 3 ∷ render ∷ [])) ≡ [])
    × (voices (b (at 4 "cut" 1 ∷ timed_free 4 1 ∷ at 4 "cut" 3 ∷ render ∷ [])) ≡ [])
    × (last 1 (b (at 4 "cut" 1 ∷ timed_free 4 1 ∷ at 4 "cut" 3 ∷ render ∷ [])) ≡ None)
unfolding eq prepare processing_order lacking lacks any live_ids live_nodes rising_from whole order walk released fed among count_up
free_between = (refl, refl, refl, refl, refl)

-- ---- Two names of one node: they do not replace each other, and the later of the two decides. Refuses: the node as the key, under
-- which `bend` would go from the queue; replaced in place.
aliases :
    (pending (a (at 4 "cut" 1 ∷ at 4 "bend" 3 ∷ at 4 "cut" 5 ∷ [])) ≡ val 3 ∷ val 5 ∷ [])
    × (last 1 (a (at 4 "cut" 1 ∷ at 4 "bend" 3 ∷ at 4 "cut" 5 ∷ render ∷ [])) ≡ Some (value 5))
    × (last 1 (a (at 4 "bend" 1 ∷ at 4 "cut" 3 ∷ render ∷ [])) ≡ Some (value 3))
    × (last 1 (b (at 4 "cut" 1 ∷ at 4 "bend" 3 ∷ at 4 "cut" 5 ∷ render ∷ [])) ≡ Some (value 5))
unfolding eq prepare processing_order lacking lacks any live_ids live_nodes rising_from whole order walk released fed among count_up
aliases = (refl, refl, refl, refl)

-- A voice that is not let in yet: the replacing is by number, and the voice that comes has the later value.
not_yet :
    (pending (a (call.schedule 20 (voice 2) (bytes "cut") (val 1) ∷ call.schedule 20 (voice 2) (bytes "cut") (val 3) ∷ [])) ≡ val 3 ∷ [])
    × (last 3 (a (call.schedule 20 (voice 2) (bytes "cut") (val 1) ∷ call.schedule 20 (voice 2) (bytes "cut") (val 3) ∷ call.spawn_managed (spawn_of swell (id 0) (float 0) 0) ∷ render ∷ render ∷ [])) ≡ Some (value 3))
unfolding eq prepare processing_order lacking lacks any live_ids live_nodes rising_from whole order walk released fed among count_up
not_yet = (refl, refl)

-- ---- "Render answers of Paper 1 list only the events left": the first value for `cut` has no entry; the one for `none`, which is no
-- parameter, and the second for `cut` have theirs. Refuses: an entry for every event that was accepted; a count of them.
lists :
    (asked (at 4 "cut" 1 ∷ at 4 "None" 3 ∷ at 4 "cut" 5 ∷ render ∷ []) start ≡ done ∷ done ∷ done ∷ told Rendered.Sounding (2 ∷ 0 ∷ []) 254 ∷ [])
    × ((kept_run (at 4 "cut" 1 ∷ at 4 "None" 3 ∷ at 4 "cut" 5 ∷ render ∷ []) start start).answers ≡ done ∷ done ∷ done ∷ told Rendered.Sounding (0 ∷ 2 ∷ 0 ∷ []) 253 ∷ [])
unfolding eq prepare processing_order lacking lacks any live_ids live_nodes rising_from whole order walk released fed among count_up
lists = (refl, refl)

-- ---- "Freed queue places count before refusal 7": 256 pending, a value for one of them is taken, another is refused and the very
-- queue stays; B goes on beyond 256. Refuses: 7 before room is made; a refused event that has thinned the queue.
abbrev many : Model
many = with_queue (event 40 (voice 1) (bytes "cut") (val 1) ∷ replicate 255 (event 40 (voice 9) [] EventAction.Free)) (new_model (up_to 2 Oldest))

room : asked (at 40 "cut" 3 ∷ at 40 "rate" 3 ∷ []) many ≡ done ∷ refused TableFull ∷ []
room = refl

room_left : length (further (at 40 "cut" 3 ∷ []) many).shared.events ≡ 256
room_left = refl

room_kept : length (kept_run (at 40 "cut" 3 ∷ []) many many).model.shared.events ≡ 257
room_kept = refl

-- ---- the wrong rules, as queues, and what they make of the same events: another store than B's
-- in place: where one is replaced, the new one stands there
abbrev in_place_or : Bool → Event → List Event → List Event
in_place_or true e l = map (λ f. cond (replaces e f) e f) l
in_place_or false e l = inserted e l

abbrev some? : List Event → Bool
some? [] = false
some? (e ∷ l) = true

abbrev in_place : Event → List Event → List Event
in_place e l = in_place_or (some? (filter (replaces e) l)) e l

abbrev same_key : Event → Event → Bool
same_key e f = eqb e.voice.0 f.voice.0 && same_name (param_of e.action e.name) (param_of f.action f.name)

abbrev sort_ignored : Event → List Event → List Event
sort_ignored e l = inserted e (filter (λ f. not (eqb e.time f.time && same_key e f)) l)

abbrev time_ignored : Event → List Event → List Event
time_ignored e l = inserted e (filter (λ f. not (same_sort e.action f.action && same_key e f)) l)

abbrev queue_by : (Event → List Event → List Event) → List Event → List Event → List Event
queue_by rule [] l = l
queue_by rule (e ∷ es) l = queue_by rule es (rule e l)

abbrev ev : ℕ → String → EventAction → Event
ev t s c = event t (voice 1) (bytes s) c

abbrev taken : (Event → List Event → List Event) → List Event → Model
taken rule es = apply_events (queue_by rule es []) start

in_place_differs :
    (last 1 (taken in_place (ev 4 "cut" (val 1) ∷ ev 4 "cut" (gli 3) ∷ ev 4 "cut" (val 5) ∷ [])) ≡ Some (glide 3))
    × (last 1 (taken inserted (ev 4 "cut" (val 1) ∷ ev 4 "cut" (gli 3) ∷ ev 4 "cut" (val 5) ∷ [])) ≡ Some (value 5))
    × (last 1 (taken replacing (ev 4 "cut" (val 1) ∷ ev 4 "cut" (gli 3) ∷ ev 4 "cut" (val 5) ∷ [])) ≡ Some (value 5))
unfolding eq prepare processing_order lacking lacks any live_ids live_nodes rising_from whole order walk released fed among count_up
in_place_differs = (refl, refl, refl)

sort_ignored_differs :
    (last 2 (taken sort_ignored (ev 4 "rate" (val 1) ∷ ev 4 "rate" (gli 3) ∷ [])) ≡ Some LastOrder.Nothing)
    × (last 2 (taken inserted (ev 4 "rate" (val 1) ∷ ev 4 "rate" (gli 3) ∷ [])) ≡ Some (value 1))
    × (last 2 (taken replacing (ev 4 "rate" (val 1) ∷ ev 4 "rate" (gli 3) ∷ [])) ≡ Some (value 1))
unfolding eq prepare processing_order lacking lacks any live_ids live_nodes rising_from whole order walk released fed among count_up
sort_ignored_differs = (refl, refl, refl)

-- the value at 4 is removed when the first render comes
time_ignored_differs :
    (length (queue_by time_ignored (ev 4 "cut" (val 1) ∷ ev 20 "cut" (val 3) ∷ []) []) ≡ 1)
    × (length (queue_by replacing (ev 4 "cut" (val 1) ∷ ev 20 "cut" (val 3) ∷ []) []) ≡ 2)
    × (last 1 (taken time_ignored (ev 20 "cut" (val 1) ∷ ev 12 "bend" (val 5) ∷ ev 4 "cut" (val 3) ∷ [])) ≡ Some (value 5))
    × (last 1 (taken inserted (ev 20 "cut" (val 1) ∷ ev 12 "bend" (val 5) ∷ ev 4 "cut" (val 3) ∷ [])) ≡ Some (value 1))
    × (last 1 (taken replacing (ev 20 "cut" (val 1) ∷ ev 12 "bend" (val 5) ∷ ev 4 "cut" (val 3) ∷ [])) ≡ Some (value 1))
unfolding eq prepare processing_order lacking lacks any live_ids live_nodes rising_from whole order walk released fed among count_up
time_ignored_differs = (refl, refl, refl, refl, refl)
